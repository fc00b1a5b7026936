-- Places in the order of their numbers, the rows of a number, and the rows whose number an earlier row has.
--
-- Numbers are compared by R, a total order as o says: two are the same where it answers `Equal`.
use Rattle.std.specs.Prelude.{◌≡◌, ℕ, ◌<◌, ◌≤◌, List, length, Option, MatchOption}
use Rattle.std.specs.declared.cmp.Ordering.TheVariants.{Equal}
use Rattle.std.specs.declared.cmp.Ordering.{Ordering}
use Rattle.std.specs.Cmp.{IsTotalOrder, nat_cmp_total, on_total, then_total}
use Rattle.std.specs.Ordering.{is_lt, nat_cmp, ordering_then}
use Rattle.std.specs.List.Sorted.{IsSortedWithin}
use Rattle.std.specs.List.{ContainsAt as Has}
use Rattle.indexes.specs.declared.Place.{Place}

-- the least number of which P holds, or none where P holds of no number
abbrev pub Least : (ℕ → Type 0) → Option ℕ → Type 0
Least P r = MatchOption r ((k : ℕ) → P k → ⊥) (λ k. P k × ((j : ℕ) → P j → k ≤ j))

-- by number, as R compares numbers, and then by row
abbrev pub place_cmp : {N : Type 0} → (N → N → Ordering) → Place N → Place N → Ordering
place_cmp R x y = ordering_then (R x.number y.number) (nat_cmp x.row y.row)

module _ {N : Type 0} {R : N → N → Ordering} (o : IsTotalOrder R) where
  abbrev pub by_place : IsTotalOrder (place_cmp R)
  by_place = then_total (on_total (λ p. p.number) o) (on_total (λ p. p.row) nat_cmp_total)

  abbrev pub SortedPlaces : List (Place N) → Type 0
  SortedPlaces ps = IsSortedWithin (λ x y. is_lt (place_cmp R x y)) ps 0 (length ps)

  abbrev pub SameNumber : N → N → Type 0
  SameNumber m n = R m n ≡ Equal

  -- a place with this number stands in row k
  abbrev pub Stands : List (Place N) → N → ℕ → Type 0
  Stands ps n k = (p : Place N) × Has ps p × SameNumber p.number n × (p.row ≡ k)

  -- q has p's number, in a later row
  abbrev pub Follows : Place N → Place N → Type 0
  Follows p q = SameNumber p.number q.number × (p.row < q.row)

  -- row k has a number that an earlier row has
  abbrev pub Repeats : List (Place N) → ℕ → Type 0
  Repeats ps k = (p q : Place N) × Has ps p × Has ps q × Follows p q × (q.row ≡ k)
