use Rattle.std.proofs.Common.{arith}
use Rattle.indexes.specs.Places.{SortedPlaces}
use Rattle.indexes.proofs.Repeated.{least_from_next}
use Rattle.indexes.proofs.first_repeat.Goals as goal

pub returns-clause-first : goal.returns-clause-first
returns-clause-first g c o =
    let qs = c.sort_unstable.new.self in
    let sorted : SortedPlaces o qs = λ k d from to. c.sort_unstable.ensures.sorted k d from (omega (arith, c.sort_unstable.ensures.len)) in
    least_from_next o c.args.places.now qs c.sort_unstable.ensures.permutation sorted c.least_repeat.result (c.least_repeat.ensures o)
