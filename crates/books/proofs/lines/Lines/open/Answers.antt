use Rattle.std.proofs.Common.{arith}
use Rattle.deliveries.proofs.Emptied.{is_day}
use Rattle.books.proofs.Singles.{none_single}
use Rattle.books.proofs.lines.Lines.open.Goals as goal

pub unwrap-requires : goal.unwrap-requires
unwrap-requires c = is_day c.new.result c.new.ensures

pub invariant_of-result : goal.invariant_of-result
invariant_of-result c = record { few = omega arith; single = none_single }
