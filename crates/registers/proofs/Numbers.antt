-- Whether one of a file's rows has a number, by the sorted places of the rows.
use Rattle.std.proofs.Common.{◌≡◌, ℕ, zero, suc, ◌<◌, Bool, true, false, not, ◌||◌, List, map, length, is_some, Some, None, Option, Ordering, Less, Equal, Greater, sym, refl, ap, ◌∙◌, subst, ⊎_elim, arith}
use Rattle.std.specs.List.{range_with_len, ContainsAt as Has}
use Rattle.std.specs.Cmp.{IsTotalOrder}
use Rattle.std.specs.Ordering.{is_eq}
use Rattle.std.proofs.lemmas.List.FromFn.{get_or-map-range_with_len, length-map-range_with_len}
use Rattle.std.proofs.lemmas.List.Sorted.{IsPermutation-sym}
use Rattle.std.proofs.ByRecursion.{has_shuffled}
use Rattle.std.proofs.lemmas.Bool.{cases_order, false≢true, or_from, or_left, or_right}
use Rattle.indexes.specs.declared.Place.{Place}
use Rattle.indexes.specs.Places.{Least, Stands}
use Rattle.kinds.specs.Meaning.{Meaning}
use Rattle.files.specs.Files.{record_at}
use Rattle.registers.specs.Admission.{has_row}
use Rattle.registers.specs.Indexes.{Index, row_place}

-- what stands in a list made from a function of the index
pub counted_has : {X : Type 0} (f : ℕ → X) (n k : ℕ) → k < n → Has (map f (range_with_len 0 n)) (f k)
counted_has f n k l = (k, subst (λ w. k < w) (sym (length-map-range_with_len f 0 n)) l, λ d. get_or-map-range_with_len f 0 n k k d l (omega arith))

pub has_counted : {X : Type 0} (f : ℕ → X) (n : ℕ) (x : X) → Has (map f (range_with_len 0 n)) x → (k : ℕ) × (k < n) × (x ≡ f k)
has_counted f n x h =
    let l = subst (λ w. h.0 < w) (length-map-range_with_len f 0 n) h.1 in
    (h.0, l, sym (h.2 x) ∙ get_or-map-range_with_len f 0 n h.0 h.0 x l (omega arith))

pub equal_is : (o : Ordering) → is_eq o ≡ true → o ≡ Equal
equal_is Less e = absurd (false≢true e)
equal_is Equal e = refl
equal_is Greater e = absurd (false≢true e)

pub turned : (b h x : Bool) → x ≡ not b → x ≡ h → b ≡ not h
turned true h x p q = ap not (sym p ∙ q)
turned false h x p q = ap not (sym p ∙ q)

module _ {R T N K : Type 0} (m : Meaning R T N K) (s : ℕ) (r : ℕ → R) where
  pub row_there : (n k : ℕ) (x : N) → k < n → is_eq (m.numbers.cmp (m.number (r k)) x) ≡ true → has_row m s r n x ≡ true
  row_there zero k x l e = absurd (omega arith)
  row_there (suc n) k x l e =
      ⊎_elim (λ z. or_right (has_row m s r n x) _ (subst (λ w. is_eq (m.numbers.cmp (m.number (r w)) x) ≡ true) z e))
      (⊎_elim (λ z. or_left _ _ (row_there n k x z e)) (λ z. absurd (omega arith))) (cases_order k n)

  pub no_row : (n : ℕ) (x : N) → ((k : ℕ) → k < n → is_eq (m.numbers.cmp (m.number (r k)) x) ≡ false) → has_row m s r n x ≡ false
  no_row zero x h = refl
  no_row (suc n) x h = or_from _ _ (no_row n x (λ k l. h k (omega arith))) (h n (omega arith))

  pub some_row : (n : ℕ) (x : N) → has_row m s r n x ≡ true → (k : ℕ) × (k < n) × (is_eq (m.numbers.cmp (m.number (r k)) x) ≡ true)
  some_row zero x e = absurd (false≢true e)
  some_row (suc n) x e = go (has_row m s r n x) refl (some_row n x) e
    where
      go : (b : Bool) → has_row m s r n x ≡ b → (has_row m s r n x ≡ true → (k : ℕ) × (k < n) × (is_eq (m.numbers.cmp (m.number (r k)) x) ≡ true)) →
          (b || is_eq (m.numbers.cmp (m.number (r n)) x)) ≡ true → (k : ℕ) × (k < suc n) × (is_eq (m.numbers.cmp (m.number (r k)) x) ≡ true)
      go true q ih e = let h = ih q in (h.0, omega (arith, h.1), h.2)
      go false q ih e = (n, omega arith, e)

module _ {R T N K : Type 0} (m : Meaning R T N K) (s : ℕ) (row : ℕ → List ℕ) {P : N → N → Ordering} (ps : List (Place N)) (index : Index m s row P ps) where
  pub place_there : (k : ℕ) → k < length ps → Has ps (row_place m s row k)
  place_there k l = has_shuffled (map (row_place m s row) (range_with_len 0 (length ps))) ps _ index.shuffled (counted_has (row_place m s row) (length ps) k l)

  pub place_is : (p : Place N) → Has ps p → (k : ℕ) × (k < length ps) × (p ≡ row_place m s row k)
  place_is p h =
      has_counted (row_place m s row) (length ps) p
      (has_shuffled ps (map (row_place m s row) (range_with_len 0 (length ps))) p (IsPermutation-sym (map (row_place m s row) (range_with_len 0 (length ps))) ps index.shuffled) h)

  -- what `row_of` answers, by the rows
  pub row_known : (o : IsTotalOrder P) → ((x y : N) → P x y ≡ m.numbers.cmp x y) → (x : N) (found : Option ℕ) → Least (Stands o ps x) found →
      is_some found ≡ has_row m s (record_at m s row) (length ps) x
  row_known o like x (Some k) least =
      let p = place_is least.0.0 least.0.1 in
      sym (row_there m s (record_at m s row) (length ps) p.0 x p.1
      (ap is_eq (sym (like _ _) ∙ (ap (λ q. P q.number x) (sym p.2) ∙ least.0.2))))
  row_known o like x None none =
      sym (no_row m s (record_at m s row) (length ps) x (λ k l. off k l (is_eq (m.numbers.cmp (m.number (record_at m s row k)) x)) refl))
    where
      off : (k : ℕ) → k < length ps → (b : Bool) → is_eq (m.numbers.cmp (m.number (record_at m s row k)) x) ≡ b → b ≡ false
      off k l true e = absurd (none k (row_place m s row k, place_there k l, like _ _ ∙ equal_is _ e, refl))
      off k l false e = refl
