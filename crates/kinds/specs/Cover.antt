-- How a row's amendment flags cover its told fields.
--
-- A told field is one that a flag covers or that is steady, that is, covered by none and never changed.
-- A kind's cover table has a line for each told field and each flag, in field order. Beside it stands a list of
-- marks: for a told field, whether it differs from the older record; for a flag, whether it counts 3.
use Rattle.std.specs.Prelude.{◌≡◌, ℕ, Bool, true, false, cond, not, ◌&&◌, ◌||◌, List, [], ◌∷◌, Some, None, Option, ◌==◌}
use Rattle.fields.specs.declared.flags.KeyFlag.{KeyFlag}
use Rattle.fields.specs.declared.flags.KeyFlag.TheVariants.{NoAmendment, New, Deletion}
use Rattle.kinds.specs.declared.cover.Cover.{Cover}
use Rattle.kinds.specs.declared.cover.Cover.TheVariants.{By, Steady, Flag}
use Rattle.kinds.specs.declared.cover.Line.{Line}

abbrev pub line : ℕ → Cover → Line
line n c = record { number = n; cover = c }

abbrev pub covered_by : ℕ → Cover → Bool
covered_by flag (By f) = f == flag
covered_by flag Steady = false
covered_by flag Flag = false

-- whether a field that the flag covers differs
abbrev pub differs_under : ℕ → List Line → List Bool → Bool
differs_under flag [] ms = false
differs_under flag (l ∷ ls) [] = false
differs_under flag (l ∷ ls) (m ∷ ms) = (covered_by flag l.cover && m) || differs_under flag ls ms

-- what a line says where flags are true: a flag counts 3 exactly if a field it covers differs, and no steady field differs
abbrev pub Tells : List Line → List Bool → Line → Bool → Type 0
Tells ls ms l m = elim l.cover [ By f ↦ Unit {0} | Steady ↦ m ≡ false | Flag ↦ m ≡ differs_under l.number ls ms ]

-- P of each line and its mark
abbrev pub EachMark : (Line → Bool → Type 0) → List Line → List Bool → Type 0
EachMark P [] ms = Unit {0}
EachMark P (l ∷ ls) [] = Unit {0}
EachMark P (l ∷ ls) (m ∷ ms) = P l m × EachMark P ls ms

abbrev pub TrueFlags : List Line → List Bool → Type 0
TrueFlags ls ms = EachMark (Tells ls ms) ls ms

-- no told field differs
abbrev pub Unchanged : List Line → List Bool → Type 0
Unchanged ls ms = EachMark (λ l m. elim l.cover [ By f ↦ m ≡ false | Steady ↦ m ≡ false | Flag ↦ Unit {0} ]) ls ms

abbrev pub xor : Bool → Bool → Bool
xor true b = not b
xor false b = b

abbrev pub is_untrue : List Line → List Bool → Line → Bool → Bool
is_untrue ls ms l m = elim l.cover [ By f ↦ false | Steady ↦ m | Flag ↦ xor m (differs_under l.number ls ms) ]

abbrev pub is_changed : Line → Bool → Bool
is_changed l m = elim l.cover [ By f ↦ m | Steady ↦ m | Flag ↦ false ]

-- the number of the first line that passes a test
abbrev pub first_line : (Line → Bool → Bool) → List Line → List Bool → Option ℕ
first_line p [] ms = None
first_line p (l ∷ ls) [] = None
first_line p (l ∷ ls) (m ∷ ms) = cond (p l m) (Some l.number) (first_line p ls ms)

-- a line at fault: at key flag 0 an untrue flag or a changed steady field, at key flag 2 a changed told field
abbrev pub is_at_fault : KeyFlag → List Line → List Bool → Line → Bool → Bool
is_at_fault NoAmendment ls ms l m = is_untrue ls ms l m
is_at_fault New ls ms l m = false
is_at_fault Deletion ls ms l m = is_changed l m

abbrev pub compared : KeyFlag → List Line → List Bool → Option ℕ
compared k ls ms = first_line (is_at_fault k ls ms) ls ms
