-- The head of a delivery: the first 47 bytes, eleven fields, and the bytes in all rows.
use Rattle.std.specs.Prelude.{◌≡◌, ℕ, ◌+◌, ◌*◌, ◌≤◌, Bool, cond, ◌&&◌, List, [], ◌∷◌, length, Some, None, Ok, Err, Option, Result, ◌==◌, nat_lt}
use Rattle.fields.specs.declared.fault.FieldFault.{FieldFault}
use Rattle.fields.specs.declared.flags.KeyFlag.TheVariants.{NoAmendment}
use Rattle.fields.specs.declared.rule.Content.TheVariants.{Any, Between, Day}
use Rattle.fields.specs.declared.rule.Context.{Context}
use Rattle.fields.specs.declared.rule.Field.{Field}
use Rattle.fields.specs.declared.rule.FieldType.TheVariants.{Numeric}
use Rattle.fields.specs.declared.rule.Need.TheVariants.{Mandatory}
use Rattle.fields.specs.Bytes.{columns, value}
use Rattle.fields.specs.Calendar.{date}
use Rattle.fields.specs.Faults.{field_of}
use Rattle.fields.specs.Rules.{Sound, checked, field}
use Rattle.deliveries.specs.declared.fault.HeadFault.{HeadFault}
use Rattle.deliveries.specs.declared.fault.HeadFault.TheVariants.{Short, BrokenField, WrongSize}
use Rattle.deliveries.specs.declared.head.Extent.{Extent}
use Rattle.deliveries.specs.declared.head.Head.{Head}

abbrev pub head_table : List Field
head_table =
    field 1 1 1 Numeric Mandatory (Between 3 3)
    ∷ (field 2 2 9 Numeric Mandatory Any
    ∷ (field 3 10 14 Numeric Mandatory (Between 0 4096)
    ∷ (field 4 15 19 Numeric Mandatory (Between 0 4096)
    ∷ (field 5 20 24 Numeric Mandatory (Between 0 4096)
    ∷ (field 6 25 27 Numeric Mandatory (Between 92 512)
    ∷ (field 7 28 30 Numeric Mandatory (Between 73 512)
    ∷ (field 8 31 33 Numeric Mandatory (Between 207 207)
    ∷ (field 9 34 37 Numeric Mandatory Any
    ∷ (field 10 38 45 Numeric Mandatory Day
    ∷ (field 11 46 47 Numeric Mandatory (Between 1 99)
    ∷ []))))))))))

-- no rule of the head refers to a supplier, a number or a key flag
abbrev pub no_context : Context
no_context = record { supplier = 0; number = 0; key_flag = NoAmendment }

-- the rows of one file and their length, from their columns in the head
abbrev pub extent : List ℕ → ℕ → ℕ → ℕ → ℕ → Extent
extent bs r₁ r₂ l₁ l₂ = record { rows = value (columns r₁ r₂ bs); length = value (columns l₁ l₂ bs) }

-- what the columns of a head say
pub record Bears (bs : List ℕ) (h : Head) : Type 0 where
  pub stations : h.stations ≡ extent bs 10 14 25 27
  pub series : h.series ≡ extent bs 15 19 28 30
  pub tables : h.tables ≡ extent bs 20 24 31 33
  pub supplier : h.supplier ≡ value (columns 34 37 bs)
  pub first_day : Some (h.first_day.year, h.first_day.month, h.first_day.day) ≡ date (columns 38 45 bs)
  pub version : h.version ≡ value (columns 46 47 bs)

-- a head of 47 bytes at least whose fields all keep their rules
pub record Whole (bs : List ℕ) (h : Head) : Type 0 where
  pub long : 47 ≤ length bs
  pub kept : Ok tt ≡ checked no_context bs head_table
  pub bears : Bears bs h

abbrev pub bytes_in : Extent → ℕ
bytes_in e = e.rows * e.length

-- the number of bytes in all rows, by the counts and lengths
abbrev pub all_rows : List ℕ → ℕ
all_rows bs =
    bytes_in (extent bs 10 14 25 27) + bytes_in (extent bs 15 19 28 30) + bytes_in (extent bs 20 24 31 33)

-- field 2 tells the bytes in all rows, and nothing follows them
abbrev pub right_size : List ℕ → Bool
right_size bs = value (columns 2 9 bs) == all_rows bs && length bs == 47 + all_rows bs

abbrev pub after_fields : List ℕ → Result (Unit {0}) FieldFault → Option HeadFault
after_fields bs (Err e) = Some (BrokenField (field_of e))
after_fields bs (Ok _) = cond (right_size bs) None (Some WrongSize)

-- the first fault of a head, none where it keeps its rules
unfoldable pub head_fault : List ℕ → Option HeadFault
head_fault bs = cond (nat_lt (length bs) 47) (Some Short) (after_fields bs (checked no_context bs head_table))

-- the rules of a head, without their order
pub record Kept (bs : List ℕ) : Type 0 where
  pub long : 47 ≤ length bs
  pub fields : Sound no_context bs head_table
  pub told_size : value (columns 2 9 bs) ≡ all_rows bs
  pub true_size : length bs ≡ 47 + all_rows bs
