-- The parts that a register's fault tells: 14 to 16 their row, 16 its flag or field, all the record's number.
use Rattle.std.specs.Prelude.{ℕ}
use Rattle.fields.specs.declared.parts.Layer.TheVariants as layer
use Rattle.fields.specs.declared.parts.Parts.{Parts}
use Rattle.registers.specs.declared.fault.EntryFault.{EntryFault}
use Rattle.registers.specs.declared.fault.EntryFault.TheVariants.{Blocked, WrongKeyFlag, Untrue}
use Rattle.registers.specs.declared.fault.RegisterFault.{RegisterFault}
use Rattle.registers.specs.declared.fault.RegisterFault.TheVariants.{Row, Missing}

abbrev pub entry_parts : ℕ → ℕ → EntryFault → Parts
entry_parts letter row (Blocked n) = record { number = 14; layer = layer.Entry; letter = letter; row = row; field = 0; «record» = n }
entry_parts letter row (WrongKeyFlag n) = record { number = 15; layer = layer.Entry; letter = letter; row = row; field = 0; «record» = n }
entry_parts letter row (Untrue f n) = record { number = 16; layer = layer.Entry; letter = letter; row = row; field = f; «record» = n }

abbrev pub register_parts : ℕ → RegisterFault → Parts
register_parts letter (Row row e) = entry_parts letter row e
register_parts letter (Missing n) = record { number = 17; layer = layer.Entry; letter = letter; row = 0; field = 0; «record» = n }
