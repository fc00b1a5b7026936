-- What a place that stands earlier among sorted places has to do with a later one.
use Rattle.std.proofs.Common.{◌≡◌, ℕ, ◌<◌, ◌≤◌, Bool, true, false, cond, eqb, ltb, ◌⊎◌, List, length, get_or, Ordering, Less, Equal, Greater, sym, refl, ap, ◌∙◌, inl, inr}
use Rattle.std.specs.Cmp.{IsTotalOrder, alike_right, tied_back}
use Rattle.std.specs.Ordering.{is_eq, is_lt, ordering_reverse, ordering_then, nat_cmp}
use Rattle.std.proofs.lemmas.List.MinMax.{ranks_by}
use Rattle.std.proofs.lemmas.List.Sorted.{sorted_far}
use Rattle.std.proofs.lemmas.Bool.{ltb-false, true≢false}
use Rattle.indexes.specs.declared.Place.{Place}
use Rattle.indexes.specs.Places.{SameNumber, SortedPlaces, by_place, place_cmp}

-- a row that does not come before another is not lower
row_order : (x y : ℕ) → is_lt (nat_cmp x y) ≡ false → y ≤ x
row_order x y h = ltb-false x y (go (ltb x y) (eqb x y) h)
  where
    go : (a b : Bool) → is_lt (cond a Less (cond b Equal Greater)) ≡ false → a ≡ false
    go true b e = e
    go false b e = refl

module _ {N : Type 0} {R : N → N → Ordering} (o : IsTotalOrder R) where
  -- p's number is less, or the same in no later row
  abbrev pub UpTo : Place N → Place N → Type 0
  UpTo p q = (R p.number q.number ≡ Less) ⊎ (SameNumber o p.number q.number × (p.row ≤ q.row))

  pub never_less : (m n : N) → SameNumber o m n → R m n ≡ Less → ⊥
  never_less m n e l = true≢false (ap is_eq (sym e ∙ l))

  pub up_to : (p q : Place N) → is_lt (place_cmp R q p) ≡ false → UpTo p q
  up_to p q h = go (R q.number p.number) refl h
    where
      go : (r : Ordering) → R q.number p.number ≡ r → is_lt (ordering_then r (nat_cmp q.row p.row)) ≡ false → UpTo p q
      go Less e l = absurd (true≢false l)
      go Equal e l = inr (tied_back o q.number p.number e, row_order q.row p.row l)
      go Greater e l = inl (o.antisymm p.number q.number ∙ ap ordering_reverse e)

  pub far : (ps : List (Place N)) → SortedPlaces o ps → (i j : ℕ) (d : Place N) → i ≤ j → j < length ps → UpTo (get_or ps i d) (get_or ps j d)
  far ps up i j d le lt =
      up_to (get_or ps i d) (get_or ps j d)
      (sorted_far (λ x y. is_lt (place_cmp R x y)) (ranks_by (by_place o) (λ p. p)) ps up i j d le lt)

  -- a place between two of one number has that number
  module _ (p m q : Place N) (same : SameNumber o p.number q.number) where
    pub between : UpTo p m → UpTo m q → SameNumber o p.number m.number × SameNumber o m.number q.number × (m.row ≤ q.row)
    between (inl a) (inl b) = absurd (never_less p.number q.number same (o.trans p.number m.number q.number a b))
    between (inl a) (inr b) = absurd (never_less p.number q.number same (sym (alike_right o m.number q.number p.number b.0) ∙ a))
    between (inr a) (inl b) = absurd (never_less p.number q.number same (o.congr p.number m.number q.number a.0 ∙ b))
    between (inr a) (inr b) = (a.0, b.0, b.1)
