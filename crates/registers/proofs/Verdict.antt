-- The first fault of a file beside the entries, and how many entries stand after it.
use Rattle.std.proofs.Common.{◌≡◌, ℕ, ◌+◌, ◌-◌, ◌≤◌, Bool, false, not, ◌&&◌, leb, List, ◌++◌, map, length, take, drop, Some, None, count_by, filter, Option, Ordering, sym, ap, ◌∙◌, subst, ⊎_elim, arith}
use Rattle.std.specs.List.{range_with_len, AllByRecursion}
use Rattle.std.specs.Cmp.{IsTotalOrder}
use Rattle.std.specs.Option.{option_map}
use Rattle.std.specs.List.Sorted.{IsPermutation}
use Rattle.std.proofs.lemmas.List.FromFn.{fill_by_all, length-map-range_with_len}
use Rattle.std.proofs.ByRecursion.{All-weaker}
use Rattle.std.proofs.lemmas.List.{length-append, length-drop, length-take}
use Rattle.std.proofs.lemmas.List.Sorted.{length_permutation}
use Rattle.std.proofs.lemmas.List.Sums.{count_by-le-length, length-filter}
use Rattle.std.proofs.lemmas.Bool.{and_left, cases_lt, le-leb, lt-leb}
use Rattle.indexes.specs.declared.Place.{Place}
use Rattle.indexes.specs.Places.{SortedPlaces}
use Rattle.kinds.specs.Meaning.{Meaning}
use Rattle.files.specs.Files.{Noted, record_at}
use Rattle.files.specs.First.{or_else}
use Rattle.registers.specs.declared.entry.Entry.{Entry}
use Rattle.registers.specs.declared.fault.RegisterFault.{RegisterFault}
use Rattle.registers.specs.declared.fault.RegisterFault.TheVariants.{Missing}
use Rattle.registers.specs.Admission.{Passes, entries_after, is_missing, lowest, missing_refusal, register_fault, row_entry, rows_refusal}
use Rattle.registers.specs.Entries.{Ascending, is_own, stays_blocked}
use Rattle.registers.specs.Indexes.{Index, row_place}
use Rattle.registers.specs.Own.{OwnPart, part}
use Rattle.registers.proofs.Lowest.{lowest_past, lowest_until}
use Rattle.registers.proofs.Split.{after_others, ascending_part, before_others, in_parts, length_part, others_are, own_kept, part_own}

-- the places of the rows, sorted
pub indexed : {R T N K : Type 0} (m : Meaning R T N K) (s : ℕ) (row : ℕ → List ℕ) (P : N → N → Ordering) (n : ℕ) (ps qs : List (Place N)) →
    length ps ≡ n → Noted m s row n ps → IsPermutation ps qs → ((o : IsTotalOrder P) → SortedPlaces o qs) → Index m s row P qs
indexed m s row P n ps qs long noted same sorted =
    let all : ps ≡ map (row_place m s row) (range_with_len 0 n) = fill_by_all (row_place m s row) ps n (row_place m s row 0) long (λ k l. noted k (row_place m s row 0) l) in
    let count : n ≡ length qs = sym (length_permutation ps qs same ∙ long) in
    record {
      shuffled = subst (λ k. IsPermutation (map (row_place m s row) (range_with_len 0 k)) qs) count (subst (λ xs. IsPermutation xs qs) all same);
      sorted = sorted;
    }

-- the missing numbers by what is answered of the supplier's part and the places of the rows
pub missing_is : {R T N K : Type 0} (m : Meaning R T N K) (s : ℕ) (row : ℕ → List ℕ) {P : N → N → Ordering} (run es : List (Entry N T)) → run ≡ es → (n start end : ℕ) → start ≤ end → end ≤ length es → OwnPart es s start end →
    Ascending m.numbers es → (qs : List (Place N)) → Index m s row P qs → length qs ≡ n → (o : Option RegisterFault) →
    (Index m s row P qs → Ascending m.numbers (part start end run) → AllByRecursion (λ e. e.id.supplier ≡ s) (part start end run) → o ≡ missing_refusal m s (record_at m s row) (part start end run) (length qs)) →
    o ≡ missing_refusal m s (record_at m s row) (part start end es) n
missing_is m s row run es is n start end first last own up qs index long o h =
    let mine = ap (part start end) is in
    h index (subst (Ascending m.numbers) (sym mine) (ascending_part m.numbers es start end up)) (subst (AllByRecursion (λ e. e.id.supplier ≡ s)) (sym mine) (part_own es s start end first last own))
    ∙ (λ i. missing_refusal m s (record_at m s row) (mine i) (long i))

-- the rows fit beside what stays exactly where all of it fits
pub fits_same : (n room stay all : ℕ) → stay ≤ room → stay + n ≡ all → leb n (room - stay) ≡ leb all room
fits_same n room stay all l e =
    ⊎_elim (λ h. lt-leb n (room - stay) h ∙ sym (lt-leb all room (omega arith))) (λ h. le-leb n (room - stay) h ∙ sym (le-leb all room (omega arith)))
    (cases_lt (room - stay) n)

-- what stays of a part, with the rest, is no more than there was
pub few_stay : {X : Type 0} (p : X → Bool) (xs : List X) (start end count : ℕ) → end ≤ length xs → count ≡ count_by p (part start end xs) →
    length xs - length (part start end xs) + count ≤ length xs
few_stay p xs start end count last e =
    omega (arith, e, count_by-le-length p (part start end xs), length-take (end - start) (drop start xs), length-drop start xs)

module _ {R T N K : Type 0} (m : Meaning R T N K) (s : ℕ) (r : ℕ → R) (es : List (Entry N T)) (year n : ℕ) where
  pub rows_refused : (o : RegisterFault) → Some o ≡ rows_refusal m s r es year n → register_fault m s r es year n ≡ Some o
  unfolding register_fault
  rows_refused o h = ap (λ x. or_else x (missing_refusal m s r es n)) (sym h)

  module _ (start end : ℕ) (first : start ≤ end) (last : end ≤ length es) (own : OwnPart es s start end) where
    -- only the supplier's own entries can be missing
    missing_own : missing_refusal m s r es n ≡ missing_refusal m s r (part start end es) n
    missing_own =
        let p = is_missing m s r n in
        let off : (e : Entry N T) → is_own s e ≡ false → p e ≡ false = λ e h. and_left (is_own s e) _ h in
        ap (option_map (λ x. Missing (m.record_number x)))
        (ap (lowest m.numbers.cmp p) (in_parts es s start end first last own)
        ∙ (lowest_past m.numbers.cmp p (take start es) _ (All-weaker (λ e. is_own s e ≡ false) (λ e. p e ≡ false) off (take start es) (before_others es s start end first last own))
        ∙ lowest_until m.numbers.cmp p (part start end es) (drop end es) (All-weaker (λ e. is_own s e ≡ false) (λ e. p e ≡ false) off (drop end es) (after_others es s start end first last own))))

    pub fault_is : (o : Option RegisterFault) → None ≡ rows_refusal m s r es year n → o ≡ missing_refusal m s r (part start end es) n → register_fault m s r es year n ≡ o
    unfolding register_fault
    fault_is o p q = ap (λ x. or_else x (missing_refusal m s r es n)) (sym p) ∙ (missing_own ∙ sym q)

    pub count_after : length (entries_after m s r es year n) ≡ length es - (end - start) + count_by (stays_blocked year) (part start end es) + n
    unfolding entries_after
    count_after =
        let a = ap length (others_are es s start end first last own) ∙ length-append (take start es) (drop end es) in
        let b = ap length (own_kept es s start end first last own (stays_blocked year)) ∙ length-filter (stays_blocked year) (part start end es) in
        let c = length-append (filter (λ e. not (is_own s e)) es) (map (row_entry m s r year) (range_with_len 0 n) ++ filter (λ e. is_own s e && stays_blocked year e) es) in
        let d = length-append (map (row_entry m s r year) (range_with_len 0 n)) (filter (λ e. is_own s e && stays_blocked year e) es) in
        omega (arith, a, b, c, d, length-map-range_with_len (row_entry m s r year) 0 n, length-take start es, length-drop end es)

    pub passes : (stay : ℕ) → None ≡ rows_refusal m s r es year n → None ≡ missing_refusal m s r (part start end es) n →
        stay ≡ length es - length (part start end es) + count_by (stays_blocked year) (part start end es) → Passes m s r es year n stay
    passes stay p q e =
        let few = count_by-le-length (stays_blocked year) (part start end es) in
        let own-length = length_part es s start end first last own in
        record {
          none = fault_is None p q;
          stays = omega (arith, count_after, e, own-length);
          few = omega (arith, e, own-length, few);
        }
