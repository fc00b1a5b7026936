-- Where a binary search for a number's row 0 ends, the number stands in its lowest row, if it stands anywhere.
use Rattle.std.proofs.Common.{◌≡◌, ℕ, ◌<◌, ◌≤◌, ◌⊎◌, List, [], ◌∷◌, length, get_or, Some, None, Ok, Err, Option, Result, Ordering, Less, Equal, Greater, sym, refl, ap, ◌∙◌, subst, inl, inr, arith, MatchOption}
use Rattle.std.specs.Cmp.{IsTotalOrder, alike_right, ranks}
use Rattle.std.specs.Ordering.{MatchOrdering, is_gt, is_lt, ordering_then, nat_cmp}
use Rattle.std.specs.List.{HoldsAt}
use Rattle.std.specs.List.Sorted.{IsBinarySearchResult, IsPartitionPoint}
use Rattle.std.specs.Result as Results
use Rattle.std.proofs.lemmas.List.Elements.{at_read}
use Rattle.std.proofs.ByRecursion.{has_get_or}
use Rattle.std.proofs.lemmas.List.{get_or_default}
use Rattle.std.proofs.lemmas.List.Sorted.{searchable_from_sorted}
use Rattle.std.proofs.lemmas.Bool.{cases_lt, true≢false}
use Rattle.indexes.specs.declared.Place.{Place}
use Rattle.indexes.specs.Places.{Least, SameNumber, SortedPlaces, Stands, by_place, place_cmp}
use Rattle.indexes.specs.Steps.{StandsAt}
use Rattle.indexes.proofs.Ascending.{UpTo, far}

-- what is searched for
abbrev pub row_0 : {N : Type 0} → N → Place N
row_0 n = record { number = n; row = 0 }

some_element : {X : Type 0} (xs : List X) (i : ℕ) → i < length xs → X
some_element [] i lt = absurd (omega arith)
some_element (x ∷ xs) i lt = x

rows_say : (x y : ℕ) (r : Ordering) → nat_cmp x y ≡ r → MatchOrdering r (x < y) (x ≡ y) (y < x)
rows_say x y r e = subst (λ t. MatchOrdering t (x < y) (x ≡ y) (y < x)) e (ranks x y)

module _ {N : Type 0} {R : N → N → Ordering} (o : IsTotalOrder R) (n : N) where
  found : (p : Place N) → place_cmp R p (row_0 n) ≡ Equal → SameNumber o p.number n × (p.row ≡ 0)
  found p e = go (R p.number n) refl e
    where
      go : (r : Ordering) → R p.number n ≡ r → ordering_then r (nat_cmp p.row 0) ≡ Equal → SameNumber o p.number n × (p.row ≡ 0)
      go Less same h = absurd (true≢false (ap is_lt h))
      go Equal same h = (same, rows_say p.row 0 Equal h)
      go Greater same h = absurd (true≢false (ap is_gt h))

  not_before : (p : Place N) → place_cmp R p (row_0 n) ≡ Less → SameNumber o p.number n → ⊥
  not_before p e same =
      let h : nat_cmp p.row 0 ≡ Less = sym (ap (λ r. ordering_then r (nat_cmp p.row 0)) same) ∙ e in
      omega (arith, rows_say p.row 0 Less h)

  not_after : (p : Place N) → place_cmp R p (row_0 n) ≡ Greater → R p.number n ≡ Less → ⊥
  not_after p e less = true≢false (ap is_lt (sym (ap (λ r. ordering_then r (nat_cmp p.row 0)) less) ∙ e))

  module _ (ps : List (Place N)) where
    -- wherever the number stands, it also stands at i, and there in no later row
    abbrev pub Lowest : ℕ → Type 0
    Lowest i =
        (j : ℕ) (d : Place N) → j < length ps → SameNumber o (get_or ps j d).number n →
        (i < length ps) × SameNumber o (get_or ps i d).number n × ((get_or ps i d).row ≤ (get_or ps j d).row)

    lowest_found : (i : ℕ) → i < length ps → HoldsAt (λ p. place_cmp R p (row_0 n) ≡ Equal) ps i → Lowest i
    lowest_found i lt at j d _ _ = let e = found (get_or ps i d) (at d) in (lt, e.0, omega (arith, e.1))

    module _ (up : SortedPlaces o ps) (i : ℕ) where
      lowest_missed : IsPartitionPoint (λ p. place_cmp R p (row_0 n) ≡ Less) (λ p. place_cmp R p (row_0 n) ≡ Greater) ps i → Lowest i
      lowest_missed parts j d lt same =
          elim (cases_lt j i) [
            | inl l ↦ absurd (not_before (get_or ps j d) (parts.0 j d (omega arith) l) same)
            | inr l ↦ here l (far o ps up i j d l lt)
          ]
        where
          here : i ≤ j → UpTo o (get_or ps i d) (get_or ps j d) → (i < length ps) × SameNumber o (get_or ps i d).number n × ((get_or ps i d).row ≤ (get_or ps j d).row)
          here l (inl less) = absurd (not_after (get_or ps i d) (parts.1 i d (omega arith) (omega arith)) (sym (alike_right o (get_or ps j d).number n (get_or ps i d).number same) ∙ less))
          here l (inr e) = (omega arith, sym (alike_right o (get_or ps j d).number n (get_or ps i d).number same) ∙ e.0, e.1)

      pub lowest_located :
          (r : Result ℕ ℕ) → (r ≡ Ok i) ⊎ (r ≡ Err i) → Results.MatchResult r (λ k. k < length ps) (λ k. k ≤ length ps) →
          IsBinarySearchResult (λ p. place_cmp R p (row_0 n)) ps r → Lowest i
      lowest_located r (inl e) bound at =
          lowest_found i
          (subst (λ t. Results.MatchResult t (λ k. k < length ps) (λ k. k ≤ length ps)) e bound)
          (subst (IsBinarySearchResult (λ p. place_cmp R p (row_0 n)) ps) e at)
      lowest_located r (inr e) bound at =
          lowest_missed (subst (IsBinarySearchResult (λ p. place_cmp R p (row_0 n)) ps) e at (searchable_from_sorted (by_place o) (λ p. p) ps (row_0 n) up))

    module _ (i : ℕ) (low : Lowest i) where
      lowest_of : (k : ℕ) (s : Stands o ps n k) → (i < length ps) × SameNumber o (get_or ps i s.0).number n × ((get_or ps i s.0).row ≤ k)
      lowest_of k s =
          let p = s.0 in
          let j : ℕ = s.1.0 in
          let at : get_or ps j p ≡ p = s.1.2 p in
          let here = low j p s.1.1 (subst (λ x. SameNumber o x.number n) (sym at) s.2) in
          let row : (get_or ps j p).row ≡ k = ap (λ x. x.row) at ∙ s.3 in
          (here.0, here.1, omega (arith, here.2, row))

      pub least_from_lowest : (r : Option ℕ) → MatchOption r ((k : ℕ) → StandsAt o ps n i k → ⊥) (StandsAt o ps n i) → Least (Stands o ps n) r
      least_from_lowest None h = λ k s.
          let here = lowest_of k s in
          let x = get_or ps i s.0 in
          h x.row (here.0, at_read ps (λ p. SameNumber o p.number n × (p.row ≡ x.row)) i x here.0 (get_or_default ps i s.0 x here.0) (here.1, refl))
      least_from_lowest (Some k) h =
          let d = some_element ps i h.0 in (
            (get_or ps i d, has_get_or ps i d h.0, (h.1 d).0, (h.1 d).1),
            λ j s. omega (arith, (lowest_of j s).2, (h.1 s.0).1),
          )
