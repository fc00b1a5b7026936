use Rattle.std.proofs.Common.{◌<◌, length, sym, ap, ◌∙◌, arith}
use Rattle.std.proofs.lemmas.List.Filters.{FiltersInPlace-all, FiltersInPlace-more_no, FiltersInPlace-more_set}
use Rattle.std.proofs.lemmas.List.{length-take}
use Rattle.std.proofs.lemmas.List.Sums.{length-filter}
use Rattle.registers.specs.Entries.{stays_blocked}
use Rattle.registers.proofs.enter.keep_blocked.Goals as goal
use Rattle.registers.proofs.enter.keep_blocked.Goals.{then-stays_blocked, else-stays_blocked}

pub loop-i-preserved : goal.loop-i-preserved
loop-i-preserved g c =
    let within : c.loop-i.i < length c.loop-i.own = omega arith in
    let is = c.index-own-i.is in
    let here = sym c.stays_blocked.ensures in
    elim c.if-stays_blocked.branch [
      | then-stays_blocked w ↦ rw (w.own-is, w.count-is) (FiltersInPlace-more_set c.loop-i.invariant within (here ∙ w.if-stays_blocked.true) is)
      | else-stays_blocked w ↦ rw (w.own-is, w.count-is) (FiltersInPlace-more_no c.loop-i.invariant within (here ∙ w.if-stays_blocked.false) is)
    ]

pub returns-clause-count : goal.returns-clause-count
returns-clause-count g c =
    let inv = c.loop-i.invariant in
    let front = FiltersInPlace-all inv (omega arith) in
    sym (length-take c.loop-i.count c.loop-i.own ∙ omega (arith, inv.behind, inv.within, inv.long)) ∙ (ap length front ∙ length-filter (stays_blocked c.args.year) c.args.own.now)
