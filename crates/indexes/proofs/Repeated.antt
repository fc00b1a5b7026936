-- Among sorted places a row repeats exactly if its place follows the one just before it.
use Rattle.std.proofs.Common.{◌≡◌, ℕ, zero, suc, ◌-◌, ◌<◌, ◌≤◌, List, [], ◌∷◌, length, get_or, Option, Ordering, sym, ap, ◌∙◌, subst, inl, inr, arith}
use Rattle.std.specs.Cmp.{IsTotalOrder, tied_back}
use Rattle.std.specs.List.Sorted.{IsPermutation}
use Rattle.std.proofs.lemmas.List.Elements.{pair_read}
use Rattle.std.proofs.ByRecursion.{has_get_or, has_shuffled}
use Rattle.std.proofs.lemmas.List.{get_or_default}
use Rattle.std.proofs.lemmas.List.Sorted.{IsPermutation-sym}
use Rattle.std.proofs.lemmas.Bool.{cases_eq, cases_lt}
use Rattle.indexes.specs.declared.Place.{Place}
use Rattle.indexes.specs.Places.{Follows, Least, Repeats, SameNumber, SortedPlaces}
use Rattle.indexes.specs.Steps.{RepeatsNext}
use Rattle.indexes.proofs.Ascending.{UpTo, between, far, never_less}
use Rattle.indexes.proofs.Leasts.{least_same}

module _ {N : Type 0} {R : N → N → Ordering} (o : IsTotalOrder R) where
  pub repeats_from_next : (ps : List (Place N)) (k : ℕ) → RepeatsNext o ps (length ps) k → Repeats o ps k
  repeats_from_next [] k h = absurd (omega (arith, h.2))
  repeats_from_next (d ∷ ps) k h =
      let i : ℕ = h.0 in
      let lt : i < length (d ∷ ps) = h.2 in (
        get_or (d ∷ ps) (i - 1) d,
        get_or (d ∷ ps) i d,
        has_get_or (d ∷ ps) (i - 1) d (omega arith),
        has_get_or (d ∷ ps) i d lt,
        (h.3 d).0,
        (h.3 d).1,
      )

  module _ (ps : List (Place N)) (up : SortedPlaces o ps) (d : Place N) where
    -- a place that follows another stands after it
    stands_after : (i j : ℕ) → i < length ps → j < length ps → Follows o (get_or ps i d) (get_or ps j d) → i < j
    stands_after i j lt lt' f = elim (cases_lt i j) [ inl l ↦ l | inr l ↦ absurd (turned (far o ps up j i d l lt)) ]
      where
        turned : UpTo o (get_or ps j d) (get_or ps i d) → ⊥
        turned (inl l) = never_less o (get_or ps j d).number (get_or ps i d).number (tied_back o (get_or ps i d).number (get_or ps j d).number f.0) l
        turned (inr l) = omega (arith, l.1, f.1)

    next_at : (k j : ℕ) → suc j < length ps → Follows o (get_or ps j d) (get_or ps (suc j) d) → (get_or ps (suc j) d).row ≡ k → RepeatsNext o ps (length ps) k
    next_at k j lt f row =
        let m = get_or ps j d in
        let q = get_or ps (suc j) d in
        let in_k : Place N → Place N → Type 0 = λ x y. Follows o x y × (y.row ≡ k) in
        let here : (e : Place N) → in_k (get_or ps j e) (get_or ps (suc j) e) =
        pair_read ps in_k j (suc j) m q (omega arith) lt (get_or_default ps j d m (omega arith)) (get_or_default ps (suc j) d q lt) (f, row) in
        let same : j ≡ suc j - 1 = omega arith in
        (suc j, omega arith, lt, subst (λ h. (e : Place N) → in_k (get_or ps h e) (get_or ps (suc j) e)) same here)

    -- the place at j has the number of the one at i and stands in row k: back from j to the first such place
    back : (k i : ℕ) → (get_or ps i d).row < k →
        (j : ℕ) → i < j → j < length ps → SameNumber o (get_or ps i d).number (get_or ps j d).number → (get_or ps j d).row ≡ k → RepeatsNext o ps (length ps) k
    back k i low zero l lt same row = absurd (omega arith)
    back k i low (suc j) l lt same row =
        let p = get_or ps i d in
        let m = get_or ps j d in
        let q = get_or ps (suc j) d in
        let mid : SameNumber o p.number m.number × SameNumber o m.number q.number × (m.row ≤ q.row) =
        between o p m q same (far o ps up i j d (omega arith) (omega arith)) (far o ps up j (suc j) d (omega arith) lt) in
        elim (cases_lt m.row k) [
          | inl less ↦ next_at k j lt (mid.1, omega arith) row
          | inr ge ↦
              elim (cases_eq i j) [
                | inl e ↦ (let one : p.row ≡ m.row = ap (λ n. (get_or ps n d).row) e in absurd (omega arith))
                | inr n ↦ back k i low j (omega arith) (omega arith) mid.0 (omega arith)
              ]
        ]

  pub next_from_repeats : (ps : List (Place N)) → SortedPlaces o ps → (k : ℕ) → Repeats o ps k → RepeatsNext o ps (length ps) k
  next_from_repeats ps up k h =
      let p = h.0 in
      let q = h.1 in
      let i : ℕ = h.2.0 in
      let j : ℕ = h.3.0 in
      let a : get_or ps i p ≡ p = h.2.2 p in
      let b : get_or ps j p ≡ q = h.3.2 p in
      let f : Follows o (get_or ps i p) (get_or ps j p) = subst (λ x. Follows o x (get_or ps j p)) (sym a) (subst (Follows o p) (sym b) h.4) in
      let row : (get_or ps j p).row ≡ k = ap (λ x. x.row) b ∙ h.5 in
      back ps up p k i (omega (arith, f.1, row)) j (stands_after ps up p i j h.2.1 h.3.1 f) h.3.1 f.0 row

  -- the order of the list is no matter
  pub repeats_shuffled : (ps qs : List (Place N)) → IsPermutation ps qs → (k : ℕ) → Repeats o ps k → Repeats o qs k
  repeats_shuffled ps qs s k h =
      (h.0, h.1, has_shuffled ps qs h.0 s h.2, has_shuffled ps qs h.1 s h.3, h.4, h.5)

  pub least_from_next : (ps qs : List (Place N)) → IsPermutation ps qs → SortedPlaces o qs → (r : Option ℕ) → Least (RepeatsNext o qs (length qs)) r → Least (Repeats o ps) r
  least_from_next ps qs s up =
      least_same
      (RepeatsNext o qs (length qs))
      (Repeats o ps)
      (λ k h. repeats_shuffled qs ps (IsPermutation-sym ps qs s) k (repeats_from_next qs k h))
      (λ k h. next_from_repeats qs up k (repeats_shuffled ps qs s k h))
