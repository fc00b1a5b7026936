-- The entries after a file are a shuffle of those that the rules define, and ascend again.
use Rattle.std.proofs.Common.{◌≡◌, ℕ, zero, suc, ◌+◌, ◌-◌, ◌<◌, ◌≤◌, Bool, true, false, cond, not, ◌&&◌, eqb, List, [], ◌∷◌, ◌++◌, map, length, get_or, take, drop, Some, None, count_by, filter, Less, Equal, Greater, sym, refl, ap, ◌∙◌, subst, arith}
use Rattle.std.specs.List.{range_with_len, AllByRecursion}
use Rattle.std.specs.Cmp.{alike_right, tied_back}
use Rattle.std.specs.Ordering.{is_lt, ordering_then}
use Rattle.std.specs.List.Sorted.{IsSortedWithin, IsPermutation, IsStrictlySortedBy}
use Rattle.std.proofs.lemmas.List.FromFn.{get_or-map-range_with_len, length-map-range_with_len, map-range_with_len_more}
use Rattle.std.proofs.ByRecursion.{All-append, all_kept_by, All-map, All-weaker, all_shuffled}
use Rattle.std.proofs.lemmas.List.{append_assoc, drop-map, get_or-drop, get_or-take, length-drop, length-take, map-append, take-map}
use Rattle.std.proofs.lemmas.List.Sorted.{IsPermutation-trans}
use Rattle.std.proofs.lemmas.List.Sums.{sum_by_push}
use Rattle.std.proofs.lemmas.Bool.{cond-true, lt-ltb, false≢true}
use Rattle.kinds.specs.Meaning.{Meaning, Order}
use Rattle.files.proofs.Firsts.{some_none}
use Rattle.registers.specs.declared.entry.Entry.{Entry}
use Rattle.registers.specs.declared.entry.Id.{Id}
use Rattle.registers.specs.declared.entry.Standing.{Standing}
use Rattle.registers.specs.declared.entry.Standing.TheVariants.{Live, Retired}
use Rattle.registers.specs.declared.fault.EntryFault.TheVariants.{Blocked}
use Rattle.registers.specs.Admission.{Entered, beside, entries_after, row_entry, row_id, row_refusal, told_number}
use Rattle.registers.specs.Entries.{Ascending, ids, is_blocked, is_own, stays_blocked}
use Rattle.registers.specs.Ids.{compare_ids}
use Rattle.registers.specs.Own.{OwnPart, part}
use Rattle.registers.proofs.Apart.{Apart, apart_append, apart_ascending, apart_shuffled, count_some, has_id, strict}
use Rattle.registers.proofs.Lists.{all_places, kept_place, sorted_append, sorted_drop, sorted_kept, sorted_take}
use Rattle.registers.proofs.Lookups.{standing_at}
use Rattle.registers.proofs.Missed.{compare_own, id_order}
use Rattle.registers.proofs.Numbers.{equal_is}
use Rattle.registers.proofs.Shuffles.{shuffled_after, shuffled_before, shuffled_turn}
use Rattle.registers.proofs.Split.{ascending_part, length_part, others_are, own_kept, part_own}

-- a lower supplier's id is below
lower_first : {N : Type 0} (o : Order N) (x y : Id N) → x.supplier < y.supplier → compare_ids o x y ≡ Less
lower_first o x y l = ap (λ b. ordering_then (cond b Less (cond (eqb x.supplier y.supplier) Equal Greater)) (o.cmp x.number y.number)) (lt-ltb x.supplier y.supplier l)

module _ {R T N K : Type 0} (m : Meaning R T N K) (s : ℕ) (r : ℕ → R) (year : ℕ) where
  -- a number that is still blocked is refused
  blocked_refused : (x : R) (st : Standing T) → is_blocked year st ≡ true → beside m year x (Some st) ≡ Some (Blocked (told_number m x))
  blocked_refused x (Live t) e = absurd (false≢true e)
  blocked_refused x (Retired y) e = cond-true (is_blocked {T = T} year (Retired y)) _ _ e

  -- rows with different numbers make entries that are apart
  rows_apart : (n : ℕ) → ((j k : ℕ) → j < k → k < n → m.number (r j) ≡ m.number (r k) → ⊥) → Apart (id_order m.numbers) (map (row_entry m s r year) (range_with_len 0 n))
  rows_apart n single i = go n (omega arith)
    where
      f : ℕ → Entry N T
      f = row_entry m s r year

      -- two rows with one id have one number
      meet : (j k : ℕ) → has_id (id_order m.numbers) i (f j) ≡ true → has_id (id_order m.numbers) i (f k) ≡ true → m.number (r j) ≡ m.number (r k)
      meet j k p q =
          m.apart (m.number (r j)) (m.number (r k))
          (sym (compare_own m.numbers (f j).id (f k).id refl)
          ∙ (sym (alike_right (id_order m.numbers) i (f k).id (f j).id (tied_back (id_order m.numbers) (f k).id i (equal_is _ q))) ∙ equal_is _ p))

      more : (k : ℕ) → k < n → count_by (has_id (id_order m.numbers) i) (map f (range_with_len 0 k)) ≤ 1 → (b : Bool) → has_id (id_order m.numbers) i (f k) ≡ b → (c : ℕ) →
          count_by (has_id (id_order m.numbers) i) (map f (range_with_len 0 k)) ≡ c → count_by (has_id (id_order m.numbers) i) (map f (range_with_len 0 k)) + cond b 1 0 ≤ 1
      more k l h false e c q = omega (arith, h)
      more k l h true e zero q = omega (arith, q)
      more k l h true e (suc c) q =
          let x = count_some (has_id (id_order m.numbers) i) (map f (range_with_len 0 k)) (omega (arith, q)) in
          let j : x.0 < k = subst (λ w. x.0 < w) (length-map-range_with_len f 0 k) x.1 in
          absurd (single x.0 k j l (meet x.0 k (ap (has_id (id_order m.numbers) i) (sym (get_or-map-range_with_len f 0 k x.0 x.0 (f 0) j (omega arith))) ∙ x.2 (f 0)) e))

      go : (k : ℕ) → k ≤ n → count_by (has_id (id_order m.numbers) i) (map f (range_with_len 0 k)) ≤ 1
      go zero l = omega arith
      go (suc k) l =
          let h = go k (omega arith) in
          let next : suc k ≡ k + 1 = omega arith in
          let e = ap (λ w. count_by (has_id (id_order m.numbers) i) (map f (range_with_len 0 w))) next
          ∙ (ap (count_by (has_id (id_order m.numbers) i)) (map-range_with_len_more f 0 k k (omega arith))
          ∙ sum_by_push (λ x. cond (has_id (id_order m.numbers) i x) 1 0) (map f (range_with_len 0 k)) (f k)) in
          omega (arith, e, more k (omega arith) h (has_id (id_order m.numbers) i (f k)) refl _ refl)

  module _ (es : List (Entry N T)) (start end : ℕ) (first : start ≤ end) (last : end ≤ length es) (own : OwnPart es s start end) (up : Ascending m.numbers es) where
    abbrev blocked : List (Entry N T)
    blocked = filter (stays_blocked year) (part start end es)

    -- the blocked entries and others of the supplier, in any order
    pub new_own : (made new : List (Entry N T)) → AllByRecursion (λ e. e.id.supplier ≡ s) made → IsPermutation (blocked ++ made) new → AllByRecursion (λ e. e.id.supplier ≡ s) new
    new_own made new mine same =
        all_shuffled (λ e. e.id.supplier ≡ s) (blocked ++ made) new same
        (All-append (λ e. e.id.supplier ≡ s) blocked made (all_kept_by (stays_blocked year) (λ e. e.id.supplier ≡ s) (part start end es) (part_own es s start end first last own)) mine)

    -- entries of lower suppliers come before those of higher ones
    pass : (c : ℕ) (xs ys : List (Entry N T)) → AllByRecursion (λ e. e.id.supplier < c) xs → AllByRecursion (λ e. c ≤ e.id.supplier) ys →
        AllByRecursion (λ x. AllByRecursion (λ y. compare_ids m.numbers x y ≡ Less) (ids ys)) (ids xs)
    pass c xs ys p q = All-map (λ x. AllByRecursion (λ y. compare_ids m.numbers x y ≡ Less) (ids ys)) (λ e. e.id) xs
        (All-weaker (λ e. e.id.supplier < c) (λ e. AllByRecursion (λ y. compare_ids m.numbers e.id y ≡ Less) (ids ys))
        (λ x h. All-map (λ y. compare_ids m.numbers x.id y ≡ Less) (λ e. e.id) ys
        (All-weaker (λ e. c ≤ e.id.supplier) (λ e. compare_ids m.numbers x.id e.id ≡ Less) (λ y k. lower_first m.numbers x.id y.id (omega arith)) ys q)) xs p)

    abbrev lower : List (Entry N T)
    lower = take start es

    abbrev higher : List (Entry N T)
    higher = drop end es

    lower_below : AllByRecursion (λ e. e.id.supplier < s) lower
    lower_below = all_places (λ e. e.id.supplier < s) lower
        (λ k d l.
        let below : k < start = omega (arith, length-take start es) in
        subst (λ e. e.id.supplier < s) (sym (get_or-take start es k d below)) (own.before k d (omega arith) below))

    higher_above : AllByRecursion (λ e. s + 1 ≤ e.id.supplier) higher
    higher_above = all_places (λ e. s + 1 ≤ e.id.supplier) higher
        (λ k d l.
        let h = own.after (end + k) d (omega arith) (omega (arith, length-drop end es)) in
        subst (λ e. s + 1 ≤ e.id.supplier) (sym (get_or-drop end es k d)) (omega (arith, h)))

    -- the supplier's new entries in the place of its old ones
    module _ (new : List (Entry N T)) (mine : AllByRecursion (λ e. e.id.supplier ≡ s) new) (rises : IsStrictlySortedBy (compare_ids m.numbers) (ids new)) where
      pub ascending : Ascending m.numbers (lower ++ (new ++ higher))
      ascending =
          let a : IsStrictlySortedBy (compare_ids m.numbers) (ids lower) = subst (IsStrictlySortedBy (compare_ids m.numbers)) (take-map (λ e. e.id) start es) (sorted_take (compare_ids m.numbers) start (ids es) up) in
          let b : IsStrictlySortedBy (compare_ids m.numbers) (ids higher) = subst (IsStrictlySortedBy (compare_ids m.numbers)) (drop-map (λ e. e.id) end es) (sorted_drop (compare_ids m.numbers) end (ids es) up) in
          let from-s : AllByRecursion (λ e. s ≤ e.id.supplier) (new ++ higher) =
          All-append (λ e. s ≤ e.id.supplier) new higher
          (All-weaker (λ e. e.id.supplier ≡ s) (λ e. s ≤ e.id.supplier) (λ e h. omega arith) new mine)
          (All-weaker (λ e. s + 1 ≤ e.id.supplier) (λ e. s ≤ e.id.supplier) (λ e h. omega arith) higher higher_above) in
          let up-to-s : AllByRecursion (λ e. e.id.supplier < s + 1) new = All-weaker (λ e. e.id.supplier ≡ s) (λ e. e.id.supplier < s + 1) (λ e h. omega arith) new mine in
          let back : IsStrictlySortedBy (compare_ids m.numbers) (ids (new ++ higher)) =
          subst (IsStrictlySortedBy (compare_ids m.numbers)) (sym (map-append (λ e. e.id) new higher))
          (sorted_append (compare_ids m.numbers) (ids new) (ids higher) rises b (pass (s + 1) new higher up-to-s higher_above)) in
          subst (IsStrictlySortedBy (compare_ids m.numbers)) (sym (map-append (λ e. e.id) lower (new ++ higher)))
          (sorted_append (compare_ids m.numbers) (ids lower) (ids (new ++ higher)) a back (pass s lower (new ++ higher) lower_below from-s))

    -- the entries of n rows beside the blocked ones
    module _ (n : ℕ) (new : List (Entry N T)) (same : IsPermutation (blocked ++ map (row_entry m s r year) (range_with_len 0 n)) new) where
      abbrev rows : List (Entry N T)
      rows = map (row_entry m s r year) (range_with_len 0 n)

      rows_own : AllByRecursion (λ e. e.id.supplier ≡ s) rows
      rows_own = All-map (λ e. e.id.supplier ≡ s) (row_entry m s r year) (range_with_len 0 n) (every (range_with_len 0 n))
        where
          every : (ks : List ℕ) → AllByRecursion (λ k. (row_entry m s r year k).id.supplier ≡ s) ks
          every [] = tt
          every (k ∷ ks) = (refl, every ks)

      shuffled : IsPermutation (entries_after m s r es year n) (lower ++ (new ++ higher))
      unfolding entries_after
      shuffled =
          let q = own_kept es s start end first last own (stays_blocked year) in
          let rest = filter (λ e. is_own s e && stays_blocked year e) es in
          let is : filter (λ e. not (is_own s e)) es ++ (rows ++ rest) ≡ lower ++ (higher ++ (rows ++ blocked)) =
          (λ i. others_are es s start end first last own i ++ (rows ++ q i)) ∙ append_assoc lower higher (rows ++ blocked) in
          let turned : IsPermutation (higher ++ (rows ++ blocked)) (new ++ higher) =
          IsPermutation-trans (higher ++ (rows ++ blocked)) ((rows ++ blocked) ++ higher) (new ++ higher) (shuffled_turn higher (rows ++ blocked))
          (shuffled_before (rows ++ blocked) new higher (IsPermutation-trans (rows ++ blocked) (blocked ++ rows) new (shuffled_turn rows blocked) same)) in
          subst (λ w. IsPermutation w (lower ++ (new ++ higher))) (sym is) (shuffled_after lower (higher ++ (rows ++ blocked)) (new ++ higher) turned)

      pub entered : IsStrictlySortedBy (compare_ids m.numbers) (ids new) → Entered m s r es year n (lower ++ (new ++ higher))
      entered rises = record { shuffled = shuffled; ascending = ascending new (new_own rows new rows_own same) rises }

      module _ (single : (j k : ℕ) → j < k → k < n → m.number (r j) ≡ m.number (r k) → ⊥) (none : (k : ℕ) → k < n → row_refusal m s r es year k ≡ None) where
        blocked_apart : Apart (id_order m.numbers) blocked
        blocked_apart = apart_ascending (id_order m.numbers) blocked (sorted_kept (compare_ids m.numbers) (λ e. e.id) (stays_blocked year) (part start end es) (ascending_part m.numbers es start end up))

        -- a row's number is not blocked
        cross : (j k : ℕ) (d : Entry N T) → j < length blocked → k < length rows → compare_ids m.numbers (get_or blocked j d).id (get_or rows k d).id ≡ Equal → ⊥
        cross j k d l h e =
            let x = kept_place (stays_blocked year) (part start end es) j d l in
            let long = length_part es s start end first last own in
            let below : k < n = subst (λ w. k < w) (length-map-range_with_len (row_entry m s r year) 0 n) h in
            let at : get_or (part start end es) x.0 d ≡ get_or es (start + x.0) d = get_or-take (end - start) (drop start es) x.0 d (omega (arith, x.1, long)) ∙ get_or-drop start es x.0 d in
            let row : get_or rows k d ≡ row_entry m s r year k = get_or-map-range_with_len (row_entry m s r year) 0 n k k d below (omega arith) in
            let tie : compare_ids m.numbers (get_or es (start + x.0) d).id (row_id m s r k) ≡ Equal =
            (λ t. compare_ids m.numbers (sym (x.2 ∙ at) t).id (sym row t).id) ∙ e in
            let there = standing_at (id_order m.numbers) es up (start + x.0) (row_id m s r k) d (omega (arith, x.1, long)) tie in
            some_none _ (sym (ap (beside m year (r k)) there ∙ blocked_refused (r k) (get_or es (start + x.0) d).standing (ap (stays_blocked year) (sym at) ∙ x.3)) ∙ none k below)

        fresh_apart : Apart (id_order m.numbers) (blocked ++ rows)
        fresh_apart = apart_append (id_order m.numbers) blocked rows blocked_apart (rows_apart n single) cross

        pub new_ascends : IsSortedWithin (λ x y. is_lt (compare_ids m.numbers x.id y.id)) new 0 (length new) → IsStrictlySortedBy (compare_ids m.numbers) (ids new)
        new_ascends sorted = strict (id_order m.numbers) new (apart_shuffled (id_order m.numbers) (blocked ++ rows) new same fresh_apart) sorted
