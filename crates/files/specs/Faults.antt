-- The parts that a row's fault tells: 4, 5 and 6 their field, 7 and 8 the record's number.
use Rattle.std.specs.Prelude.{ℕ}
use Rattle.fields.specs.declared.parts.Layer.TheVariants as layer
use Rattle.fields.specs.declared.parts.Parts.{Parts}
use Rattle.fields.specs.Faults.{field_parts}
use Rattle.files.specs.declared.fault.RowFault.{RowFault}
use Rattle.files.specs.declared.fault.RowFault.TheVariants.{Field, Later, Twice}

-- a field's fault, in its row of a file
abbrev pub placed : Parts → ℕ → ℕ → Parts
placed p letter row =
    record { number = p.number; layer = p.layer; letter = letter; row = row; field = p.field; «record» = p.«record» }

abbrev pub row_parts : ℕ → ℕ → RowFault → Parts
row_parts letter row (Field e) = placed (field_parts e) letter row
row_parts letter row (Later n) = record { number = 7; layer = layer.Row; letter = letter; row = row; field = 0; «record» = n }
row_parts letter row (Twice n) = record { number = 8; layer = layer.Row; letter = letter; row = row; field = 0; «record» = n }
