use Rattle.std.proofs.Common.{arith}
use Rattle.deliveries.proofs.Heads.{whole}
use Rattle.deliveries.proofs.Parts.{counts}
use Rattle.deliveries.proofs.Verdict.{sound_when_read}
use Rattle.books.proofs.book.Book.admit.Goals as goal

pub slice_bounds-stations-end : goal.slice_bounds-stations-end
slice_bounds-stations-end c =
    let d = c.args.delivery.now in
    let n = counts d.bytes.now c.head-head.result (whole d.bytes.now c.head-head.result (sound_when_read d.bytes.now d.sound).head c.head-head.ensures.1) in
    omega (arith, n.few_stations)

pub slice_bounds-series-end : goal.slice_bounds-series-end
slice_bounds-series-end c =
    let d = c.args.delivery.now in
    let n = counts d.bytes.now c.head-head.result (whole d.bytes.now c.head-head.result (sound_when_read d.bytes.now d.sound).head c.head-head.ensures.1) in
    omega (arith, n.few_series)

pub slice_bounds-tables-end : goal.slice_bounds-tables-end
slice_bounds-tables-end c =
    let d = c.args.delivery.now in
    let n = counts d.bytes.now c.head-head.result (whole d.bytes.now c.head-head.result (sound_when_read d.bytes.now d.sound).head c.head-head.ensures.1) in
    omega (arith, n.few_tables)
