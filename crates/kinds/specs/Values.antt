-- The values in a row's columns, and whether two of them differ.
use Rattle.std.specs.Prelude.{ℕ, Bool, cond, not, List, Ok, Err, Result, ◌==◌}
use Rattle.std.specs.Str.{bytes_eq}
use Rattle.fields.specs.declared.fault.FieldFault.{FieldFault}
use Rattle.fields.specs.declared.rule.Context.{Context}
use Rattle.fields.specs.declared.text.Text.{Text}
use Rattle.fields.specs.declared.class.Class.TheVariants.{Only}
use Rattle.fields.specs.Bytes.{columns, every, text, value}
use Rattle.fields.specs.Flags.{amended, key_flag}
use Rattle.kinds.specs.Cover.{xor}

abbrev pub text_in : (n : ℕ) → ℕ → ℕ → List ℕ → Text n
text_in n first last row = record { bytes = text n (columns first last row) }

abbrev pub number_in : ℕ → ℕ → List ℕ → ℕ
number_in first last row = value (columns first last row)

abbrev pub flag_in : ℕ → List ℕ → Bool
flag_in column row = amended (columns column column row)

abbrev pub texts_differ : {n : ℕ} → Text n → Text n → Bool
texts_differ a b = not (bytes_eq a.bytes b.bytes)

abbrev pub numbers_differ : ℕ → ℕ → Bool
numbers_differ a b = not (a == b)

abbrev pub signs_differ : Bool → Bool → Bool
signs_differ a b = xor a b

-- whether a column holds the sign
abbrev pub sign_in : ℕ → ℕ → List ℕ → Bool
sign_in sign column row = every (Only sign) (columns column column row)

-- the newer value where its flag counts 3, else the older one
abbrev pub taken : {A : Type 0} → Bool → A → A → A
taken flag newer older = cond flag newer older

-- a row that keeps its table is read as r
abbrev pub read_as : {R : Type 0} → R → Result (Unit {0}) FieldFault → Result R FieldFault
read_as r (Ok _) = Ok r
read_as r (Err e) = Err e

-- what the rules of a station's or a series' row refer to
abbrev pub row_context : ℕ → List ℕ → Context
row_context s row = record { supplier = s; number = number_in 5 9 row; key_flag = key_flag (columns 10 10 row) }
