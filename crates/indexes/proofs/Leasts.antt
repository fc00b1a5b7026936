-- The least number of which P holds is the least of which Q does, where Q holds of the same numbers.
use Rattle.std.proofs.Common.{ℕ, Some, None, Option}
use Rattle.indexes.specs.Places.{Least}

pub least_same : (P Q : ℕ → Type 0) → ((k : ℕ) → P k → Q k) → ((k : ℕ) → Q k → P k) → (r : Option ℕ) → Least P r → Least Q r
least_same P Q more less None h = λ k q. h k (less k q)
least_same P Q more less (Some k) h = (more k h.0, λ j q. h.1 j (less j q))
