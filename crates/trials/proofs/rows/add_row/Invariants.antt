use Rattle.std.proofs.Common.{◌≡◌, ◌+◌, ◌≤◌, length, take}
use Rattle.trials.proofs.rows.add_row.Given as goal

abbrev pub invariant-loop-sign : goal.invariant-loop-sign
invariant-loop-sign g l = (take (length l.initial.bytes.items) l.bytes.items ≡ l.initial.bytes.items) × (length l.bytes.items + length l.rest ≤ length l.initial.bytes.items + length l.initial.rest)

abbrev pub decreases-loop-sign : goal.decreases-loop-sign
decreases-loop-sign g l = length l.rest
