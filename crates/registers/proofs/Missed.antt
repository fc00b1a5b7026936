-- A supplier's own entries ascend by number, so the first live one without a row is the lowest.
use Rattle.std.proofs.Common.{◌≡◌, ℕ, ◌<◌, Bool, true, false, cond, not, ◌&&◌, eqb, List, length, get_or, Some, None, Ordering, Less, Equal, Greater, sym, ap, ◌∙◌, subst, arith}
use Rattle.std.specs.Cmp.{IsTotalOrder}
use Rattle.std.specs.List.Sorted.{IsStrictlySortedBy}
use Rattle.std.specs.Option.{option_map}
use Rattle.std.specs.Ordering.{is_lt, ordering_reverse, ordering_then, nat_cmp}
use Rattle.std.specs.List.{AllByRecursion}
use Rattle.std.proofs.ByRecursion.{All-get_or}
use Rattle.std.proofs.lemmas.Bool.{and_from, and_right, eq-eqb, le-ltb}
use Rattle.kinds.specs.Meaning.{Meaning, Order}
use Rattle.files.proofs.Judged.{one_order, total_of}
use Rattle.registers.specs.declared.entry.Entry.{Entry}
use Rattle.registers.specs.declared.entry.Id.{Id}
use Rattle.registers.specs.declared.fault.RegisterFault.TheVariants.{Missing}
use Rattle.registers.specs.Admission.{has_row, is_missing, missing_refusal}
use Rattle.registers.specs.Entries.{Ascending, ids, is_live, standing}
use Rattle.registers.specs.Ids.{by_id, compare_ids, id_cmp}
use Rattle.registers.proofs.Lookups.{below}
use Rattle.registers.proofs.Lowest.{lowest_at, lowest_none}

-- the order of ids by the order of a kind's numbers
abbrev pub id_order : {N : Type 0} (o : Order N) → IsTotalOrder (compare_ids o)
id_order o = by_id (total_of o (λ x y r e. e))

-- the entries and what stands under an id, by the order by which code compares
module _ {N T : Type 0} (o : Order N) {P : N → N → Ordering} (says : (x y : N) (r : Ordering) → r ≡ P x y → r ≡ o.cmp x y) (es : List (Entry N T)) where
  pub ascends_by : Ascending o es → IsStrictlySortedBy (id_cmp P) (ids es)
  ascends_by = subst (λ c. IsStrictlySortedBy (id_cmp c) (ids es)) (one_order o says)

  pub standing_by : (i : Id N) → standing (id_cmp P) es i ≡ standing (compare_ids o) es i
  standing_by i = ap (λ c. standing (id_cmp c) es i) (sym (one_order o says))

pub rank_same : (a b : ℕ) → a ≡ b → nat_cmp a b ≡ Equal
rank_same a b e = λ i. cond (le-ltb a b (omega arith) i) Less (cond (eq-eqb a b e i) Equal Greater)

-- ids of one supplier compare by their numbers
pub compare_own : {N : Type 0} (o : Order N) (x y : Id N) → x.supplier ≡ y.supplier → compare_ids o x y ≡ o.cmp x.number y.number
compare_own o x y e = ap (λ r. ordering_then r (o.cmp x.number y.number)) (rank_same x.supplier y.supplier e)

pub own_order : {N T : Type 0} (o : Order N) (es : List (Entry N T)) (s : ℕ) → Ascending o es → AllByRecursion (λ e. e.id.supplier ≡ s) es →
    (i k : ℕ) (d : Entry N T) → i < k → k < length es → o.cmp (get_or es i d).id.number (get_or es k d).id.number ≡ Less
own_order o es s up own i k d l h =
    let a = All-get_or (λ e. e.id.supplier ≡ s) es i d (omega arith) own in
    let b = All-get_or (λ e. e.id.supplier ≡ s) es k d h own in
    sym (compare_own o (get_or es i d).id (get_or es k d).id (a ∙ sym b)) ∙ below (id_order o) es up i k d l h

module _ {R T N K : Type 0} (m : Meaning R T N K) (s : ℕ) (r : ℕ → R) (n : ℕ) where
  pub not_missing : (e : Entry N T) (b : Bool) → b ≡ (is_live e.standing && not (has_row m s r n e.id.number)) → b ≡ false → is_missing m s r n e ≡ false
  not_missing e b p q = and_right (eqb e.id.supplier s) _ (sym p ∙ q)

  pub missing_first : (es : List (Entry N T)) → Ascending m.numbers es → AllByRecursion (λ e. e.id.supplier ≡ s) es →
      (i told : ℕ) (x : Entry N T) (b : Bool) → i < length es → x ≡ get_or es i x → b ≡ (is_live x.standing && not (has_row m s r n x.id.number)) → b ≡ true →
      ((k : ℕ) (d : Entry N T) → k < i → is_missing m s r n (get_or es k d) ≡ false) → told ≡ m.record_number x.id.number →
      Some (Missing told) ≡ missing_refusal m s r es n
  missing_first es up own i told x b l is p q before t =
      let mine : x.id.supplier ≡ s = ap (λ e. e.id.supplier) is ∙ All-get_or (λ e. e.id.supplier ≡ s) es i x l own in
      let here : is_missing m s r n x ≡ true = and_from (eqb x.id.supplier s) _ (eq-eqb x.id.supplier s mine) (sym p ∙ q) in
      let low = lowest_at m.numbers.cmp (is_missing m s r n) es i x l (ap (is_missing m s r n) (sym is) ∙ here) (λ k z. before k x z)
      (λ k z w. ap is_lt (m.numbers.flip (get_or es k x).id.number (get_or es i x).id.number ∙ ap ordering_reverse (own_order m.numbers es s up own i k x z w))) in
      ap (λ w. Some (Missing w)) (t ∙ ap (λ e. m.record_number e.id.number) is)
      ∙ ap (option_map (λ w. Missing (m.record_number w))) (sym low)

  pub missing_none : (es : List (Entry N T)) → AllByRecursion (λ e. is_missing m s r n e ≡ false) es → None ≡ missing_refusal m s r es n
  missing_none es h = ap (option_map (λ w. Missing (m.record_number w))) (sym (lowest_none m.numbers.cmp (is_missing m s r n) es h))
