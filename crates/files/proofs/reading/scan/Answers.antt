use Rattle.std.proofs.Common.{◌≡◌, ◌+◌, ◌<◌, length, None, Some, Err, sym, refl, ap, ◌∙◌, subst, arith, below_more, rules, tests, MatchResult}
use Rattle.std.proofs.lemmas.List.{length-take-le}
use Rattle.std.proofs.lemmas.Result.{err_from_is_err_and}
use Rattle.kinds.specs.Meaning.{reads}
use Rattle.files.specs.Files.{judged, light_fault, told}
use Rattle.files.specs.Steps.{Read}
use Rattle.files.specs.Rows.{row_in}
use Rattle.files.specs.declared.fault.RowFault.{RowFault}
use Rattle.files.proofs.Firsts.{first_none, first_some}
use Rattle.files.proofs.Scans.{key_more, light_none, light_some, noted_more, record_is}
use Rattle.files.proofs.reading.scan.Goals as goal

pub returns-in_err-map_err-clause-first : goal.returns-in_err-map_err-clause-first
returns-in_err-map_err-clause-first g c =
    let m = g.K.Kind.meaning in
    let rows = c.args.rows.now in
    let s = rows.supplier in
    let row = row_in rows in
    let i = c.loop-i.i in
    let at : (x : RowFault) × (c.read_row.result ≡ Err x) × (c.in_err-map_err.field-0.0 ≡ record { row = i + 1; fault = x }) = search (rules, tests) in
    let here : judged m c.loop-i.before (reads m s (row i)) ≡ Some at.0 =
    subst (λ r. MatchResult r (λ _. Read m s (row i) c.loop-i.before c.read_row.new.into) (λ e. judged m c.loop-i.before (reads m s (row i)) ≡ Some e)) at.1 c.read_row.ensures in
    let fault = err_from_is_err_and c.from_residual.result c.from_residual.ensures.1 in
    fault.1 ∙ (ap Err (fault.2 ∙ at.2)
    ∙ ap told (sym (first_some (light_fault m s row) c.args.count i at.0 (omega (arith, c.loop-i-test.true, length-take-le c.args.count c.args.places.now (omega arith))) (light_some m s row i c.loop-i.before at.0 c.loop-i.invariant.0 here) c.loop-i.invariant.1)))

pub loop-i-preserved : goal.loop-i-preserved
loop-i-preserved g c =
    let m = g.K.Kind.meaning in
    let rows = c.args.rows.now in
    let s = rows.supplier in
    let row = row_in rows in
    let i = c.loop-i.i in
    let r = c.read_row.new.into in
    let read : Read m s (row i) c.loop-i.before r = search rules in
    let long : i < length c.loop-i.place-items = omega arith in
    let number = c.number.ensures ∙ ap m.number (sym (record_is m s row i r read.is_read)) in (
      ap Some c.order.ensures ∙ key_more m s row i r read.is_read,
      below_more (λ k. light_fault m s row k ≡ None) i c.loop-i.invariant.1 (light_none m s row i c.loop-i.before r c.loop-i.invariant.0 read),
      noted_more m s row i c.loop-i.place-items _ c.number.result long number refl c.loop-i.invariant.2,
    )

pub returns-clause-first : goal.returns-clause-first
returns-clause-first g c =
    let m = g.K.Kind.meaning in
    let rows = c.args.rows.now in
    sym (ap told (first_none (light_fault m rows.supplier (row_in rows)) c.args.count (λ k l. c.loop-i.invariant.1 k (omega (arith, l, length-take-le c.args.count c.args.places.now (omega arith))))))
