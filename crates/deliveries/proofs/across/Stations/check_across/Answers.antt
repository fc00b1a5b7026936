use Rattle.std.proofs.Common.{◌≡◌, ℕ, ◌+◌, length, Some, None, Err, Option, sym, ap, ◌∙◌, arith, below_more, rules, tests}
use Rattle.std.specs.Result.{result_err}
use Rattle.std.proofs.lemmas.Result.{err_from_is_err_and}
use Rattle.kinds.specs.declared.series.Series.{Series}
use Rattle.kinds.specs.Series.{series_meaning}
use Rattle.kinds.specs.Station.{station_meaning}
use Rattle.files.specs.Rows.{record_in}
use Rattle.files.proofs.Firsts.{first_none, first_some}
use Rattle.deliveries.specs.declared.fault.AcrossFault.{AcrossFault}
use Rattle.deliveries.specs.declared.fault.DeliveryFault.TheVariants.{Across}
use Rattle.deliveries.specs.Across.{series_fault}
use Rattle.deliveries.specs.Delivery.{beside}
use Rattle.deliveries.proofs.across.Stations.check_across.Goals as goal

pub returns-in_err-map_err : goal.returns-in_err-map_err
returns-in_err-map_err c =
    let stations = c.args.self.now in
    let at : Series → Option AcrossFault = series_fault (record_in station_meaning stations.rows) (length stations.places.now) in
    let f : ℕ → Option AcrossFault = λ k. at (record_in series_meaning c.args.series.now k) in
    let i = c.loop-i.i in
    let fault : (x : AcrossFault) × (c.check_series.result ≡ Err x) × (c.in_err-map_err.field-0.0 ≡ Across (i + 1) x) = search (rules, tests) in
    let here : f i ≡ Some fault.0 = ap at (sym c.record-record.ensures) ∙ (sym c.check_series.ensures ∙ ap result_err fault.1) in
    let passed = err_from_is_err_and c.from_residual.result c.from_residual.ensures.1 in
    ap result_err passed.1 ∙ (ap Some (passed.2 ∙ fault.2) ∙ ap beside (sym (first_some f c.args.count i fault.0 c.loop-i-test.true here c.loop-i.invariant)))

pub loop-i-preserved : goal.loop-i-preserved
loop-i-preserved c =
    let stations = c.args.self.now in
    let at : Series → Option AcrossFault = series_fault (record_in station_meaning stations.rows) (length stations.places.now) in
    let none : result_err c.check_series.result ≡ None = search (rules, tests) in
    below_more (λ k. at (record_in series_meaning c.args.series.now k) ≡ None) c.loop-i.i c.loop-i.invariant
    (ap at (sym c.record-record.ensures) ∙ (sym c.check_series.ensures ∙ none))

pub returns : goal.returns
returns c =
    let stations = c.args.self.now in
    let at : Series → Option AcrossFault = series_fault (record_in station_meaning stations.rows) (length stations.places.now) in
    let f : ℕ → Option AcrossFault = λ k. at (record_in series_meaning c.args.series.now k) in
    ap beside (sym (first_none f c.args.count (λ k l. c.loop-i.invariant k (omega arith))))
