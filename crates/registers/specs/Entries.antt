-- The entries of a run: live numbers with their told fields, and retired ones with their year of deletion.
use Rattle.std.specs.Prelude.{ℕ, ◌+◌, Bool, true, false, cond, List, [], ◌∷◌, map, Some, None, Option, ◌==◌, nat_lt}
use Rattle.std.specs.declared.cmp.Ordering.{Ordering}
use Rattle.std.specs.Ordering.{is_eq}
use Rattle.std.specs.List.Sorted.{IsStrictlySortedBy}
use Rattle.kinds.specs.Meaning.{Order}
use Rattle.registers.specs.declared.entry.Entry.{Entry}
use Rattle.registers.specs.declared.entry.Id.{Id}
use Rattle.registers.specs.declared.entry.Standing.{Standing}
use Rattle.registers.specs.declared.entry.Standing.TheVariants.{Live, Retired}
use Rattle.registers.specs.Ids.{compare_ids}

abbrev pub ids : {N T : Type 0} → List (Entry N T) → List (Id N)
ids es = map (λ e. e.id) es

-- the standing of the first entry with the id, which is the only one where no number stands twice
abbrev pub standing : {N T : Type 0} → (Id N → Id N → Ordering) → List (Entry N T) → Id N → Option (Standing T)
standing cmp [] i = None
standing cmp (e ∷ es) i = cond (is_eq (cmp e.id i)) (Some e.standing) (standing cmp es i)

-- entries ascend by supplier and number, so that no number stands twice
abbrev pub Ascending : {N T : Type 0} → Order N → List (Entry N T) → Type 0
Ascending o es = IsStrictlySortedBy (compare_ids o) (ids es)

abbrev pub is_own : {N T : Type 0} → ℕ → Entry N T → Bool
is_own s e = e.id.supplier == s

abbrev pub is_live : {T : Type 0} → Standing T → Bool
is_live (Live t) = true
is_live (Retired y) = false

-- a number that was retired in a year comes back only in the third calendar year after
abbrev pub free_from : ℕ → ℕ
free_from y = y + 3

-- whether a number is blocked in a year
abbrev pub is_blocked : {T : Type 0} → ℕ → Standing T → Bool
is_blocked year (Live t) = false
is_blocked year (Retired y) = nat_lt year (free_from y)

abbrev pub stays_blocked : {N T : Type 0} → ℕ → Entry N T → Bool
stays_blocked year e = is_blocked year e.standing
