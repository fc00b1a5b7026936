use Rattle.std.proofs.Common.{◌≡◌, drop}
use Rattle.fields.specs.Rules.{checked}
use Rattle.fields.proofs.checker.check.Given as goal

abbrev pub invariant-loop-field : goal.invariant-loop-field
invariant-loop-field l = checked l.context l.row (drop l.field-index l.table) ≡ checked l.context l.row l.table
