-- What a field may hold, and the first field of a row at fault.
use Rattle.std.specs.Prelude.{◌≡◌, ℕ, ◌+◌, ◌-◌, Bool, true, false, not, ◌&&◌, ◌||◌, List, [], ◌∷◌, ◌++◌, length, is_some, Some, None, Ok, Err, Option, Result, ◌==◌, nat_le, slice_index_or}
use Rattle.std.specs.List.{AllByRecursion}
use Rattle.std.specs.Str.{bytes_eq}
use Rattle.fields.specs.declared.class.Class.TheVariants.{Digit, Letter, Plain, Printable, Only}
use Rattle.fields.specs.declared.fault.FieldFault.{FieldFault}
use Rattle.fields.specs.declared.fault.FieldFault.TheVariants.{NotOfType, NotAllowed, NotEqual}
use Rattle.fields.specs.declared.flags.KeyFlag.{KeyFlag}
use Rattle.fields.specs.declared.flags.KeyFlag.TheVariants.{NoAmendment, New, Deletion}
use Rattle.fields.specs.declared.rule.Content.{Content}
use Rattle.fields.specs.declared.rule.Content.TheVariants.{Any, Between, ZeroOrFrom, Amendment, Day, Capitals, PlainText, Sign, Supplier, FileName}
use Rattle.fields.specs.declared.rule.Context.{Context}
use Rattle.fields.specs.declared.rule.Field.{Field}
use Rattle.fields.specs.declared.rule.FieldType.{FieldType}
use Rattle.fields.specs.declared.rule.FieldType.TheVariants.{Numeric, Alphanumeric}
use Rattle.fields.specs.declared.rule.Need.{Need}
use Rattle.fields.specs.declared.rule.Need.TheVariants.{Mandatory, Optional}
use Rattle.fields.specs.Bytes.{blank, columns, every, padded, value}
use Rattle.fields.specs.Calendar.{date, within}

-- a line of a table: the field's number, its first and last column, and its rule
abbrev pub field : ℕ → ℕ → ℕ → FieldType → Need → Content → Field
field n first last t need content =
    record { number = n; first = first; last = last; holds = t; need = need; content = content }

-- an optional field may be blank throughout
abbrev pub left_blank : Need → List ℕ → Bool
left_blank Mandatory bs = false
left_blank Optional bs = blank bs

-- digits in every column; or printable bytes, of which the first is no blank
abbrev pub of_type : FieldType → List ℕ → Bool
of_type Numeric bs = every Digit bs
of_type Alphanumeric bs = not (slice_index_or bs 0 32 == 32) && every Printable bs

-- an amendment flag may be 3 only where the row is neither new nor a deletion
abbrev pub amends : KeyFlag → Bool
amends NoAmendment = true
amends New = false
amends Deletion = false

-- the contents that a rule allows
abbrev pub allowed : Context → Content → List ℕ → Bool
allowed c Any bs = true
allowed c (Between low high) bs = within low high (value bs)
allowed c (ZeroOrFrom low) bs = value bs == 0 || nat_le low (value bs)
allowed c Amendment bs = value bs == 0 || (value bs == 3 && amends c.key_flag)
allowed c Day bs = is_some (date bs)
allowed c Capitals bs = every Letter bs
allowed c PlainText bs = every Plain bs
allowed c (Sign s) bs = blank bs || every (Only s) bs
allowed c Supplier bs = true
allowed c FileName bs = true

-- the table number and then the supplier, four digits each
abbrev pub file_name : Context → List ℕ
file_name c = padded 4 c.number ++ padded 4 c.supplier

-- what has to equal the head's supplier or the composed file name does
abbrev pub equal : Context → Content → List ℕ → Bool
equal c Any bs = true
equal c (Between low high) bs = true
equal c (ZeroOrFrom low) bs = true
equal c Amendment bs = true
equal c Day bs = true
equal c Capitals bs = true
equal c PlainText bs = true
equal c (Sign s) bs = true
equal c Supplier bs = value bs == c.supplier
equal c FileName bs = bytes_eq bs (file_name c)

-- the bytes in a field's columns
abbrev pub bytes_of : Field → List ℕ → List ℕ
bytes_of f row = columns f.first f.last row

-- all columns of the field are there, and they are of its type, or blank where they may be
abbrev pub typed_as : Field → List ℕ → Bool
typed_as f bs = length bs == f.last + 1 - f.first && (left_blank f.need bs || of_type f.holds bs)

-- the fault of a field that is of its type or not, allowed or not, equal or not
abbrev pub fault_when : Bool → Bool → Bool → ℕ → Option FieldFault
fault_when false a e n = Some (NotOfType n)
fault_when true false e n = Some (NotAllowed n)
fault_when true true false n = Some (NotEqual n)
fault_when true true true n = None

-- the fault of one field, none where it keeps its rule
unfoldable pub fault : Context → List ℕ → Field → Option FieldFault
fault c row f =
    fault_when (typed_as f (bytes_of f row)) (allowed c f.content (bytes_of f row)) (equal c f.content (bytes_of f row)) f.number

abbrev pub Keeps : Context → List ℕ → Field → Type 0
Keeps c row f = fault c row f ≡ None

-- a fault, or what follows where there is none
abbrev pub unless : Option FieldFault → Result (Unit {0}) FieldFault → Result (Unit {0}) FieldFault
unless None r = r
unless (Some e) r = Err e

-- the first fault of a row in the order of its table
abbrev pub checked : Context → List ℕ → List Field → Result (Unit {0}) FieldFault
checked c row [] = Ok tt
checked c row (f ∷ fs) = unless (fault c row f) (checked c row fs)

-- every field keeps its rule
abbrev pub Sound : Context → List ℕ → List Field → Type 0
Sound c row fs = AllByRecursion (Keeps c row) fs
