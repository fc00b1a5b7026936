use Rattle.std.proofs.Common.{◌+◌}
use Rattle.files.specs.Files.{record_at}
use Rattle.files.specs.Rows.{row_in}
use Rattle.registers.specs.Admission.{row_entry}
use Rattle.registers.proofs.Merging.{Merging}
use Rattle.registers.proofs.enter.merge.Given as goal

abbrev pub invariant-loop-left : goal.invariant-loop-left
invariant-loop-left g l =
    let m = g.K.Kind.meaning in
    let s = l.rows.supplier in
    Merging (λ p. row_entry m s (record_at m s (row_in l.rows)) l.year p.row) l.places l.initial.own l.initial.blocked l.own l.blocked l.left

abbrev pub decreases-loop-left : goal.decreases-loop-left
decreases-loop-left g l = l.blocked + l.left
