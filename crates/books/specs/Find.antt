-- What find answers, and what it tells.
use Rattle.std.specs.Prelude.{Some, None, Option}
use Rattle.registers.specs.declared.entry.Standing.{Standing}
use Rattle.registers.specs.declared.entry.Standing.TheVariants.{Live, Retired}
use Rattle.registers.specs.Entries.{free_from}
use Rattle.books.specs.declared.find.Found.{Found}
use Rattle.books.specs.declared.find.Found.TheVariants as found

abbrev pub found_as : {T : Type 0} → Option (Standing T) → Found
found_as None = found.Unknown
found_as (Some (Live t)) = found.Live
found_as (Some (Retired y)) = found.Retired (y, free_from y)

-- a live number's told fields; in all other cases the lent record stays as it was
abbrev pub told_as : {T : Type 0} → Option (Standing T) → T → T
told_as None was = was
told_as (Some (Live t)) was = t
told_as (Some (Retired y)) was = was
