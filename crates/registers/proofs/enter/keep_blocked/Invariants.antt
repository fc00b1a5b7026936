use Rattle.std.proofs.lemmas.List.Filters.{FiltersInPlace}
use Rattle.registers.specs.Entries.{stays_blocked}
use Rattle.registers.proofs.enter.keep_blocked.Given as goal

abbrev pub invariant-loop-i : goal.invariant-loop-i
invariant-loop-i g l = FiltersInPlace (stays_blocked l.year) l.initial.own l.own l.count l.i
