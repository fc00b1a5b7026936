use Rattle.std.proofs.Common.{◌≡◌, false, length, get_or, sym, ap, ◌∙◌, arith, below_more}
use Rattle.std.proofs.lemmas.List.{get_or_read}
use Rattle.files.specs.Files.{record_at}
use Rattle.registers.specs.Admission.{is_missing}
use Rattle.registers.proofs.Lists.{all_places}
use Rattle.registers.proofs.Missed.{missing_first, missing_none, not_missing}
use Rattle.registers.proofs.check.check_missing.Goals as goal

pub returns-then-lacks_row : goal.returns-then-lacks_row
returns-then-lacks_row g c s row index up own =
    let m = g.K.Kind.meaning in
    missing_first m s (record_at m s row) (length c.args.places.now) c.args.own.now up own c.loop-entry.entry-index c.record_number.result c.entry-item.result
    c.lacks_row.result c.loop-entry-test.true c.entry-item.is (c.lacks_row.ensures s row index) c.if-lacks_row.true (c.loop-entry.invariant s row index) c.record_number.ensures

pub loop-entry-preserved : goal.loop-entry-preserved
loop-entry-preserved g c s row index =
    let m = g.K.Kind.meaning in
    let es = c.args.own.now in
    let x = c.entry-item.result in
    let off = not_missing m s (record_at m s row) (length c.args.places.now) x c.lacks_row.result (c.lacks_row.ensures s row index) c.if-lacks_row.false in
    λ k d. below_more (λ k. is_missing m s (record_at m s row) (length c.args.places.now) (get_or es k d) ≡ false) c.loop-entry.entry-index
    (λ k l. c.loop-entry.invariant s row index k d l)
    (ap (is_missing m s (record_at m s row) (length c.args.places.now)) (sym (get_or_read es c.loop-entry.entry-index x c.loop-entry-test.true c.entry-item.is d)) ∙ off) k

pub returns : goal.returns
returns g c s row index up own =
    let m = g.K.Kind.meaning in
    missing_none m s (record_at m s row) (length c.args.places.now) c.args.own.now
    (all_places (λ e. is_missing m s (record_at m s row) (length c.args.places.now) e ≡ false) c.args.own.now (λ k d l. c.loop-entry.invariant s row index k d (omega arith)))
