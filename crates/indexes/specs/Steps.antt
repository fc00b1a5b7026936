-- What a look at two neighbours, and at the place at an index, finds.
use Rattle.std.specs.Prelude.{◌≡◌, ℕ, ◌-◌, ◌<◌, Bool, ◌&&◌, List, length, get_or, nat_lt, slice_index_or}
use Rattle.std.specs.declared.cmp.Ordering.{Ordering}
use Rattle.std.specs.Cmp.{IsTotalOrder}
use Rattle.std.specs.Ordering.{is_eq}
use Rattle.std.specs.List.{HoldsAt}
use Rattle.indexes.specs.declared.Place.{Place}
use Rattle.indexes.specs.Places.{Follows, SameNumber}

-- whether q has p's number, in a later row
abbrev pub is_repeat : {N : Type 0} → (N → N → Ordering) → Place N → Place N → Bool
is_repeat R p q = nat_lt p.row q.row && is_eq (R p.number q.number)

module _ {N : Type 0} {R : N → N → Ordering} (o : IsTotalOrder R) where
  -- below high, the place in row k follows the one that stands just before it
  abbrev pub RepeatsNext : List (Place N) → ℕ → ℕ → Type 0
  RepeatsNext ps high k = (i : ℕ) × (0 < i) × (i < high) × ((d : Place N) → Follows o (slice_index_or ps (i - 1) d) (slice_index_or ps i d) × ((get_or ps i d).row ≡ k))

  -- the place at i has this number, and stands in row k
  abbrev pub StandsAt : List (Place N) → N → ℕ → ℕ → Type 0
  StandsAt ps n i k = (i < length ps) × HoldsAt (λ p. SameNumber o p.number n × (p.row ≡ k)) ps i
