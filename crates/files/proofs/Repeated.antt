-- The repeats among the places of rows are the rows whose number an earlier row has.
use Rattle.std.proofs.Common.{◌≡◌, ℕ, zero, suc, ◌+◌, ◌-◌, ◌<◌, ◌≤◌, Bool, true, false, cond, ◌||◌, List, ◌++◌, length, get_or, take, is_ok, Some, None, Ok, Err, Option, Result, Ordering, Less, Equal, Greater, sym, refl, ap, ◌∙◌, subst, ⊎_elim, arith, MatchOption}
use borrow.Rule.Slice.PartMut.{post_of}
use Rattle.std.specs.Cmp.{IsTotalOrder}
use Rattle.std.specs.Ordering.{is_eq}
use Rattle.std.specs.List.Sorted.{IsPermutation}
use Rattle.std.specs.List.{ContainsAt as Has}
use Rattle.std.proofs.lemmas.List.{append-nil, drop_all, get_or-take, length-take, length-take-le}
use Rattle.std.proofs.lemmas.List.Sorted.{IsPermutation-sym, length_permutation}
use Rattle.std.proofs.ByRecursion.{has_shuffled}
use Rattle.std.proofs.lemmas.Bool.{cases_Bool, cases_order, false≢true, or_left, or_right}
use Rattle.indexes.specs.declared.Place.{Place}
use Rattle.indexes.specs.Places.{Least, Repeats}
use Rattle.kinds.specs.Meaning.{Meaning}
use Rattle.files.specs.declared.fault.RowFault.{RowFault}
use Rattle.files.specs.declared.fault.RowFault.TheVariants.{Twice}
use Rattle.files.specs.Files.{Indexed, Noted, file_fault, light_fault, number_at, number_fault, record_at, row_fault, same_number, stands_below, told}
use Rattle.files.specs.Steps.{rows_read}
use Rattle.files.specs.First.{first, or_else}
use Rattle.files.proofs.Judged.{total_of}
use Rattle.files.proofs.Firsts.{first_none, first_says, first_some}
use Rattle.files.specs.declared.fault.FileFault.{FileFault}

module _ {R T N K : Type 0} (m : Meaning R T N K) (s : ℕ) (row : ℕ → List ℕ) where
  below_some : (k n j : ℕ) → j < n → same_number m s row j k ≡ true → stands_below m s row k n ≡ true
  below_some k zero j l e = absurd (omega arith)
  below_some k (suc n) j l e =
      ⊎_elim (λ z. or_right (stands_below m s row k n) _ (subst (λ w. same_number m s row w k ≡ true) z e))
      (⊎_elim (λ z. or_left _ _ (below_some k n j z e)) (λ z. absurd (omega arith))) (cases_order j n)

  some_below : (k n : ℕ) → stands_below m s row k n ≡ true → (j : ℕ) × (j < n) × (same_number m s row j k ≡ true)
  some_below k zero e = absurd (false≢true e)
  some_below k (suc n) e = go (stands_below m s row k n) refl (some_below k n) e
    where
      go : (b : Bool) → stands_below m s row k n ≡ b → (stands_below m s row k n ≡ true → (j : ℕ) × (j < n) × (same_number m s row j k ≡ true)) →
          (b || same_number m s row n k) ≡ true → (j : ℕ) × (j < suc n) × (same_number m s row j k ≡ true)
      go true q ih e = let h = ih q in (h.0, omega (arith, h.1), h.2)
      go false q ih e = (n, omega arith, e)

  is_equal : (o : Ordering) → is_eq o ≡ true → o ≡ Equal
  is_equal Less e = absurd (false≢true e)
  is_equal Equal e = refl
  is_equal Greater e = absurd (false≢true e)

  place : ℕ → Place N
  place k = record { number = m.number (record_at m s row k); row = k }

  -- the places of the first f rows, by the front of the list that holds them
  module _ (f : ℕ) (ps : List (Place N)) (long : f ≤ length ps) (noted : Noted m s row f ps) where
    front_length : length (take f ps) ≡ f
    front_length = length-take f ps ∙ omega arith

    front_place : (k : ℕ) (d : Place N) → k < f → get_or (take f ps) k d ≡ record { number = m.number (record_at m s row k); row = k }
    front_place k d l = get_or-take f ps k d (omega arith) ∙ noted k d l

    pub front_has : (k : ℕ) → k < f → Has (take f ps) (record { number = m.number (record_at m s row k); row = k })
    front_has k l = (k, subst (λ n. k < n) (sym front_length) l, λ d. front_place k d l)

    pub has_front : (p : Place N) → Has (take f ps) p → (k : ℕ) × (k < f) × (p ≡ record { number = m.number (record_at m s row k); row = k })
    has_front p h =
        let l = subst (λ n. h.0 < n) front_length h.1 in
        (h.0, l, sym (h.2 p) ∙ front_place h.0 p l)

    -- the same places in another order are still those of the rows
    pub indexed : (qs : List (Place N)) → IsPermutation (take f ps) qs → Indexed m s row f qs
    indexed qs same =
        record {
          all = λ k l. has_shuffled (take f ps) qs _ same (front_has k l);
          only = λ p h. has_front p (has_shuffled qs (take f ps) p (IsPermutation-sym (take f ps) qs same) h);
        }

    module _ {P : N → N → Ordering} (o : IsTotalOrder P) (like : (x y : N) → P x y ≡ m.numbers.cmp x y) where
      pub repeats_there : (k : ℕ) → Repeats o (take f ps) k → (k < f) × (stands_below m s row k k ≡ true)
      repeats_there k h =
          let a = has_front h.0 h.2 in
          let b = has_front h.1 h.3 in
          let at-k : b.0 ≡ k = sym (ap (λ p. p.row) b.2) ∙ h.5 in
          let below : a.0 < b.0 = subst (λ w. w < b.0) (ap (λ p. p.row) a.2) (subst (λ w. h.0.row < w) (ap (λ p. p.row) b.2) h.4.1) in
          let same : same_number m s row a.0 b.0 ≡ true =
          ap is_eq (sym (like _ _) ∙ ((λ i. P (sym (ap (λ p. p.number) a.2) i) (sym (ap (λ p. p.number) b.2) i)) ∙ h.4.0)) in (
            subst (λ w. w < f) at-k b.1,
            subst (λ w. stands_below m s row w w ≡ true) at-k (below_some b.0 b.0 a.0 below same),
          )

      pub repeats_back : (k : ℕ) → k < f → stands_below m s row k k ≡ true → Repeats o (take f ps) k
      repeats_back k l e =
          let j = some_below k k e in (
            record { number = m.number (record_at m s row j.0); row = j.0 },
            record { number = m.number (record_at m s row k); row = k },
            front_has j.0 (omega (arith, j.1)),
            front_has k l,
            (like _ _ ∙ is_equal _ j.2, j.1),
            refl,
          )

      module _ (light : (k : ℕ) → k < f → light_fault m s row k ≡ None) (n : ℕ) where
        not_twice : ((j : ℕ) → Repeats o (take f ps) j → ⊥) → (k : ℕ) → k < f → row_fault m s row k ≡ None
        not_twice none k l =
            (λ i. or_else (light k l i) (cond (off i) (Some (Twice (number_at m s row k))) None))
          where
            off : stands_below m s row k k ≡ false
            off = ⊎_elim (λ e. absurd (none k (repeats_back k l e))) (λ e. e) (cases_Bool (stands_below m s row k k))

        pub when_repeated : f ≤ n → (k : ℕ) → Least (Repeats o (take f ps)) (Some k) → file_fault m s row n ≡ Some (k, Twice (number_at m s row k))
        unfolding file_fault
        when_repeated most k least =
            let there = repeats_there k least.0 in
            first_some (row_fault m s row) n k _ (omega (arith, there.0))
            (λ i. or_else (light k there.0 i) (cond (there.1 i) (Some (Twice (number_at m s row k))) None))
            (λ j l. (λ i. or_else (light j (omega (arith, there.0)) i) (cond (earlier j l there.0 i) (Some (Twice (number_at m s row j))) None)))
          where
            earlier : (j : ℕ) → j < k → k < f → stands_below m s row j j ≡ false
            earlier j l q =
                ⊎_elim (λ e. absurd (omega (arith, least.1 j (repeats_back j (omega arith) e)))) (λ e. e) (cases_Bool (stands_below m s row j j))

        pub when_all : f ≡ n → Least (Repeats o (take f ps)) None → file_fault m s row n ≡ None
        unfolding file_fault
        when_all all none = first_none (row_fault m s row) n (λ k l. not_twice none k (omega arith))

        pub when_next : (x : RowFault) → f < n → light_fault m s row f ≡ Some x → Least (Repeats o (take f ps)) None → file_fault m s row n ≡ Some (f, x)
        unfolding file_fault
        when_next x next here none = first_some (row_fault m s row) n f x next (ap (λ z. or_else z (number_fault m s row f)) here) (not_twice none)

-- f of n rows were read, and this was answered; the places of those rows stand at the front of the list
pub record Scan {R T N K : Type 0} (m : Meaning R T N K) (s : ℕ) (row : ℕ → List ℕ) (n f : ℕ) (answer : Result (Unit {0}) FileFault) (ps : List (Place N)) : Type 0 where
  pub answered : answer ≡ told (first (light_fault m s row) n)
  pub read : f ≡ rows_read n answer
  pub room : n ≤ length ps
  pub noted : Noted m s row (rows_read n answer) ps

module _ {R T N K : Type 0} (m : Meaning R T N K) (s : ℕ) (row : ℕ → List ℕ) (n f : ℕ) (answer : Result (Unit {0}) FileFault) (ps : List (Place N)) (scan : Scan m s row n f answer ps) where
  abbrev lights : Option (ℕ × RowFault) → Type 0
  lights o = MatchOption o ((k : ℕ) → k < n → light_fault m s row k ≡ None) (λ p. (p.0 < n) × (light_fault m s row p.0 ≡ Some p.1) × ((j : ℕ) → j < p.0 → light_fault m s row j ≡ None))

  front : (f ≤ n) × ((k : ℕ) → k < f → light_fault m s row k ≡ None)
  front = go (first (light_fault m s row) n) (first_says (light_fault m s row) n) scan.answered
    where
      go : (o : Option (ℕ × RowFault)) → lights o → answer ≡ told o → (f ≤ n) × ((k : ℕ) → k < f → light_fault m s row k ≡ None)
      go None h e = let all : f ≡ n = scan.read ∙ ap (rows_read n) e in (omega arith, λ k l. h k (omega arith))
      go (Some p) h e = let here : f ≡ p.0 + 1 - 1 = scan.read ∙ ap (rows_read n) e in (omega (arith, h.0), λ k l. h.2 k (omega arith))

  long : f ≤ length ps
  long = omega (arith, front.0, scan.room)

  noted : Noted m s row f ps
  noted = subst (λ w. Noted m s row w ps) (sym scan.read) scan.noted

  -- where there is no fault, all rows were read
  all_read : is_ok answer ≡ true → f ≡ n
  all_read ok = go answer scan.read ok
    where
      go : (r : Result (Unit {0}) FileFault) → f ≡ rows_read n r → is_ok r ≡ true → f ≡ n
      go (Ok _) e ok = e
      go (Err x) e ok = absurd (false≢true ok)

  module _ {P : N → N → Ordering} (says : (x y : N) (r : Ordering) → r ≡ P x y → r ≡ m.numbers.cmp x y) where
    abbrev o : IsTotalOrder P
    o = total_of m.numbers says

    like : (x y : N) → P x y ≡ m.numbers.cmp x y
    like x y = says x y (P x y) refl

    pub repeat_below : (k : ℕ) → Repeats o (take f ps) k → k < n
    repeat_below k h = omega (arith, front.0, (repeats_there m s row f ps long noted o like k h).0)

    pub repeated : (k : ℕ) → Least (Repeats o (take f ps)) (Some k) → file_fault m s row n ≡ Some (k, Twice (number_at m s row k))
    repeated = when_repeated m s row f ps long noted o like front.1 n front.0

    pub not_repeated : Least (Repeats o (take f ps)) None → answer ≡ told (file_fault m s row n)
    not_repeated none = go (first (light_fault m s row) n) (first_says (light_fault m s row) n) scan.answered
      where
        go : (first_light : Option (ℕ × RowFault)) → lights first_light → answer ≡ told first_light → answer ≡ told (file_fault m s row n)
        go None h e = e ∙ ap told (sym (when_all m s row f ps long noted o like front.1 n (scan.read ∙ ap (rows_read n) e) none))
        go (Some p) h e =
            let here : p.0 ≡ f = omega (arith, scan.read ∙ ap (rows_read n) e) in
            e ∙ ap told (subst (λ w. Some (w, p.1) ≡ file_fault m s row n) (sym here) (sym (when_next m s row f ps long noted o like front.1 n p.1 (omega (arith, here, h.0)) (subst (λ w. light_fault m s row w ≡ Some p.1) here h.1) none)))

  -- where there is no fault and the places are sorted, they are those of all rows
  pub indexed_all : (qs : List (Place N)) → IsPermutation (take f ps) qs → is_ok answer ≡ true → Indexed m s row n qs × (length qs ≡ n)
  indexed_all qs same ok =
      let all = all_read ok in (
        subst (λ w. Indexed m s row w qs) all (indexed m s row f ps long noted qs same),
        length_permutation (take f ps) qs same ∙ (length-take-le f ps long ∙ all),
      )

-- nothing lies past a part that is the whole
pub no_rest : {X : Type 0} (f : ℕ) (xs qs : List X) → length xs ≤ f → qs ++ post_of 0 (f - 0) xs ≡ qs
no_rest f xs qs l = ap (λ r. qs ++ r) (drop_all (f - 0) xs (omega arith)) ∙ append-nil qs
