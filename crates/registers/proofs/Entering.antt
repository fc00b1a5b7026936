-- Entering a file into the used entries of a run gives what the rules define.
use Rattle.std.proofs.Common.{◌≡◌, ℕ, ◌+◌, ◌-◌, ◌<◌, ◌≤◌, List, [], ◌∷◌, ◌++◌, map, length, take, drop, Some, None, count_by, filter, Option, Ordering, sym, refl, ap, ◌∙◌, subst, arith, MatchOption}
use mathlib.Core.List.{map-map}
use Rattle.std.specs.List.{range_with_len, AllByRecursion}
use Rattle.std.specs.List.Sorted.{IsPermutation, IsSortedWithin, IsStrictlySortedBy}
use Rattle.std.specs.Ordering.{is_lt}
use Rattle.std.specs.Option.{option_map, unwrap_or}
use Rattle.std.proofs.lemmas.List.{length-append, length-map, length-take, take-map, take-take, take_at}
use Rattle.std.proofs.lemmas.Slice.{between_is}
use Rattle.std.proofs.lemmas.List.Sorted.{IsPermutation-trans}
use Rattle.std.proofs.lemmas.List.Sums.{length-filter}
use Rattle.indexes.specs.declared.Place.{Place}
use Rattle.kinds.specs.Meaning.{Meaning}
use Rattle.files.specs.Files.{record_at}
use Rattle.files.specs.First.{first, or_else}
use Rattle.files.proofs.Firsts.{none_first, some_none}
use Rattle.files.proofs.Judged.{one_order, total_of}
use Rattle.registers.specs.declared.entry.Entry.{Entry}
use Rattle.registers.specs.declared.fault.EntryFault.{EntryFault}
use Rattle.registers.specs.declared.fault.RegisterFault.{RegisterFault}
use Rattle.registers.specs.Admission.{Entered, at_row, entries_after, missing_refusal, register_fault, row_entry, row_refusal}
use Rattle.registers.specs.Entries.{Ascending, ids, stays_blocked}
use Rattle.registers.specs.Ids.{compare_ids, id_cmp}
use Rattle.registers.specs.Indexes.{Enterable, row_place}
use Rattle.registers.specs.Own.{OwnPart, Replaced, Staying, part}
use Rattle.registers.proofs.Entered.{ascending, entered, new_ascends, new_own}
use Rattle.registers.proofs.Lists.{sorted_take}
use Rattle.registers.proofs.Shifts.{length_of_part, part_take}
use Rattle.registers.proofs.Shuffles.{shuffled_after, shuffled_map}
use Rattle.registers.proofs.Split.{by_supplier, length_part}
use Rattle.registers.proofs.Verdict.{count_after}

module _ {R T N K : Type 0} (m : Meaning R T N K) (s : ℕ) (r : ℕ → R) (es : List (Entry N T)) (year n : ℕ) where
  none_mapped : (o : Option (ℕ × EntryFault)) (p : Option RegisterFault) → or_else (option_map at_row o) p ≡ None → o ≡ None
  none_mapped None p e = refl
  none_mapped (Some x) p e = absurd (some_none _ e)

  -- where nothing is refused, no row is
  pub no_row_refused : register_fault m s r es year n ≡ None → (k : ℕ) → k < n → row_refusal m s r es year k ≡ None
  unfolding register_fault
  no_row_refused e = none_first (row_refusal m s r es year) n (none_mapped (first (row_refusal m s r es year) n) (missing_refusal m s r es n) e)

-- so many entries stay beside the rows, as the rules have it
pub stay_is : {R T N K : Type 0} (m : Meaning R T N K) (s : ℕ) (r : ℕ → R) (es : List (Entry N T)) (year n start end stay : ℕ) → Ascending m.numbers es → Staying es s year start end stay →
    length (entries_after m s r es year n) ≡ stay + n
stay_is m s r es year n start end stay up st =
    let own = st.own (by_supplier m.numbers es up) in
    omega (arith, count_after m s r es year n start end st.first st.last own, length_part es s start end st.first st.last own, st.count)

-- the rows fit beside what stays
pub room_for : {N T : Type 0} (xs : List (Entry N T)) (used year s start end stay n : ℕ) → used ≤ length xs → Staying (take used xs) s year start end stay → n ≤ length xs - stay →
    used - (end - start) + count_by (stays_blocked year) (part start end xs) + n ≤ length xs
room_for xs used year s start end stay n within st room =
    let long : length (take used xs) ≡ used = length-take used xs ∙ omega (arith, within) in
    let last : end ≤ used = omega (arith, st.last, long) in
    let mine = part_take xs start end used st.first last in
    omega (arith, st.count, ap (count_by (stays_blocked year)) mine, ap length mine, length_of_part xs start end (omega (arith, within, last)), long, room, st.few)

-- what a run holds after a supplier's entries gave way to those of rows
module _ {R T N K : Type 0} (m : Meaning R T N K) (s : ℕ) (row : ℕ → List ℕ) (P : N → N → Ordering)
    (says : (x y : N) (o : Ordering) → o ≡ P x y → o ≡ m.numbers.cmp x y)
    (xs : List (Entry N T)) (used year : ℕ) (ps : List (Place N)) (within : used ≤ length xs) (up : Ascending m.numbers (take used xs))
    (start end stay : ℕ) (st : Staying (take used xs) s year start end stay)
    (ys : List (Entry N T)) (count : ℕ)
    (rep : Replaced P xs ys start end used (filter (stays_blocked year) (part start end xs) ++ map (λ p. row_entry m s (record_at m s row) year p.row) ps) count) where
  abbrev es : List (Entry N T)
  es = take used xs

  abbrev r : ℕ → R
  r = record_at m s row

  abbrev g : Place N → Entry N T
  g p = row_entry m s (record_at m s row) year p.row

  own : OwnPart es s start end
  own = st.own (by_supplier m.numbers es up)

  long : length es ≡ used
  long = length-take used xs ∙ omega (arith, within)

  end-used : end ≤ used
  end-used = omega (arith, st.last, long)

  mine : part start end es ≡ part start end xs
  mine = part_take xs start end used st.first end-used

  lower : take start es ≡ take start xs
  lower = take-take start used xs (omega (arith, st.first, end-used))

  all : take count ys ≡ take start es ++ (rep.own ++ drop end es)
  all = rep.all ∙ (λ i. sym lower i ++ (rep.own ++ between_is xs end used i))

  -- the blocked entries and those of the rows, shuffled
  same : IsPermutation (filter (stays_blocked year) (part start end es) ++ map g ps) rep.own
  same = subst (λ w. IsPermutation (filter (stays_blocked year) w ++ map g ps) rep.own) (sym mine) rep.shuffled

  by_places : (ps : List (Place N)) → AllByRecursion (λ e. e.id.supplier ≡ s) (map g ps)
  by_places [] = tt
  by_places (p ∷ ps) = (refl, by_places ps)

  run_fits : stay + length ps ≤ length xs → count ≤ length xs
  run_fits room =
      let a = length_part es s start end st.first st.last own in
      let b = length-append (filter (stays_blocked year) (part start end xs)) (map g ps) in
      let c = length-filter (stays_blocked year) (part start end xs) in
      let d = ap (count_by (stays_blocked year)) mine in
      omega (arith, rep.count, st.count, a, b, c, d, length-map ps g, room, long, end-used, st.first)

  run_ascends : IsStrictlySortedBy (id_cmp P) (ids rep.own) → Ascending m.numbers (take count ys)
  run_ascends rises =
      subst (Ascending m.numbers) (sym all)
      (ascending m s r year es start end st.first st.last own up rep.own
      (new_own m s r year es start end st.first st.last own up (map g ps) rep.own (by_places ps) same)
      (subst (λ c. IsStrictlySortedBy (id_cmp c) (ids rep.own)) (sym (one_order m.numbers says)) rises))

  front_ascends : Ascending m.numbers (take start ys)
  front_ascends =
      let front : take start ys ≡ take start es =
      sym (take-take start count ys (omega (arith, rep.count)))
      ∙ (ap (take start) all ∙ take_at (take start es) (rep.own ++ drop end es) start (length-take start es ∙ omega (arith, long, end-used, st.first))) in
      subst (Ascending m.numbers) (sym front) (subst (IsStrictlySortedBy (compare_ids m.numbers)) (take-map (λ e. e.id) start es) (sorted_take (compare_ids m.numbers) start (ids es) up))

  -- how many entries are used then
  abbrev Answers : Option ℕ → Type 0
  Answers a = MatchOption a (IsStrictlySortedBy (id_cmp P) (ids rep.own) → ⊥) (λ n. (n ≡ count) × IsStrictlySortedBy (id_cmp P) (ids rep.own))

  pub run_kept : stay + length ps ≤ length xs → length ys ≡ length xs → (a : Option ℕ) → Answers a →
      (unwrap_or a start ≤ length ys) × Ascending m.numbers (take (unwrap_or a start) ys)
  run_kept room len None h = (omega (arith, len, within, end-used, st.first), front_ascends)
  run_kept room len (Some n) h = (omega (arith, h.0, run_fits room, len), subst (λ k. Ascending m.numbers (take k ys)) (sym h.0) (run_ascends h.1))

  pub run_entered : Enterable m s row P xs used year ps → (a : Option ℕ) → Answers a → Entered m s r es year (length ps) (take (unwrap_or a start) ys)
  run_entered h a answer = go a answer
    where
      by_rows : IsPermutation (filter (stays_blocked year) (part start end es) ++ map (row_entry m s r year) (range_with_len 0 (length ps))) rep.own
      by_rows =
          let blocked = filter (stays_blocked year) (part start end es) in
          let rows = map (row_entry m s r year) (range_with_len 0 (length ps)) in
          let made : map g (map (row_place m s row) (range_with_len 0 (length ps))) ≡ rows = map-map g (row_place m s row) (range_with_len 0 (length ps)) in
          let turned : IsPermutation rows (map g ps) = subst (λ w. IsPermutation w (map g ps)) made (shuffled_map g (map (row_place m s row) (range_with_len 0 (length ps))) ps h.index.shuffled) in
          IsPermutation-trans (blocked ++ rows) (blocked ++ map g ps) rep.own (shuffled_after blocked rows (map g ps) turned) same

      rises : IsStrictlySortedBy (compare_ids m.numbers) (ids rep.own)
      rises =
          new_ascends m s r year es start end st.first st.last own up (length ps) rep.own by_rows h.single (no_row_refused m s r es year (length ps) h.none)
          (subst (λ c. IsSortedWithin (λ x y. is_lt (id_cmp c x.id y.id)) rep.own 0 (length rep.own)) (sym (one_order m.numbers says)) (rep.ascends (total_of m.numbers says)))

      go : (a : Option ℕ) → Answers a → Entered m s r es year (length ps) (take (unwrap_or a start) ys)
      go None none = absurd (none (subst (λ c. IsStrictlySortedBy (id_cmp c) (ids rep.own)) (one_order m.numbers says) rises))
      go (Some n) some =
          subst (λ k. Entered m s r es year (length ps) (take k ys)) (sym some.0)
          (subst (Entered m s r es year (length ps)) (sym all) (entered m s r year es start end st.first st.last own up (length ps) rep.own by_rows rises))
