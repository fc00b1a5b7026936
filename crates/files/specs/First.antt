-- The first of several things, one after another, that has a fault.
use Rattle.std.specs.Prelude.{ℕ, zero, suc, Some, None, Option}

-- a, or b where there is no a
abbrev pub or_else : {A : Type 0} → Option A → Option A → Option A
or_else (Some x) o = Some x
or_else None o = o

abbrev pub at_index : {A : Type 0} → ℕ → Option A → Option (ℕ × A)
at_index k None = None
at_index k (Some x) = Some (k, x)

-- the first fault among the things 0 to n - 1, with its index
abbrev pub first : {A : Type 0} → (ℕ → Option A) → ℕ → Option (ℕ × A)
first f zero = None
first f (suc n) = or_else (first f n) (at_index n (f n))
