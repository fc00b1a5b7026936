use Rattle.std.proofs.Common.{◌≡◌, min, length, take, Some, None, sym, refl, ap, ◌∙◌, subst, arith}
use Rattle.std.specs.Result.{result_err}
use Rattle.std.proofs.lemmas.List.{length-take-le}
use Rattle.std.proofs.lemmas.Result.{err_from_is_err_and}
use Rattle.kinds.specs.Station.{station_meaning}
use Rattle.files.specs.Files.{Indexed, SoundRows}
use Rattle.files.specs.Rows.{row_in}
use Rattle.std.specs.Cmp.{nat_cmp_total}
use Rattle.deliveries.proofs.Parts.{answered, counts}
use Rattle.deliveries.proofs.reading.check_rows.Goals as goal

pub returns-in_err-check_file : goal.returns-in_err-check_file
returns-in_err-check_file c =
    let files = c.files_in-files in
    let p = err_from_is_err_and c.from_residual.result c.from_residual.ensures.1 in
    ap result_err p.1 ∙ (ap Some p.2 ∙ answered c.args.bytes.now _ c.requires files.result files.ensures.stations files.ensures.series files.ensures.tables _ _ _ refl refl refl _ refl
    (Some _) _ _ _ c.in_err-check_file.ensures.first refl refl refl)

pub returns-in_err-check_file-2 : goal.returns-in_err-check_file-2
returns-in_err-check_file-2 c =
    let files = c.files_in-files in
    let p = err_from_is_err_and c.from_residual-in_err-check_file-2.result c.from_residual-in_err-check_file-2.ensures.1 in
    ap result_err p.1 ∙ (ap Some p.2 ∙ answered c.args.bytes.now _ c.requires files.result files.ensures.stations files.ensures.series files.ensures.tables _ _ _ refl refl refl _ refl
    None (Some _) _ _ c.in_ok-check_file.ensures.first c.in_err-check_file-2.ensures.first refl refl)

pub returns-in_err-check_file-3 : goal.returns-in_err-check_file-3
returns-in_err-check_file-3 c =
    let files = c.files_in-files in
    let p = err_from_is_err_and c.from_residual-in_err-check_file-3.result c.from_residual-in_err-check_file-3.ensures.1 in
    ap result_err p.1 ∙ (ap Some p.2 ∙ answered c.args.bytes.now _ c.requires files.result files.ensures.stations files.ensures.series files.ensures.tables _ _ _ refl refl c.check_file-2.auto.places _ refl
    None None (Some _) _ c.in_ok-check_file.ensures.first c.in_ok-check_file-2.ensures.first c.in_err-check_file-3.ensures.first refl)

pub slice_bounds-stations-end : goal.slice_bounds-stations-end
slice_bounds-stations-end c = let n = counts c.args.bytes.now c.args.head.now c.requires in omega (arith, n.few_stations, c.check_file.auto.places)

pub slice_bounds-stations-end-2 : goal.slice_bounds-stations-end-2
slice_bounds-stations-end-2 c = let n = counts c.args.bytes.now c.args.head.now c.requires in sym (length-take-le _ _ (omega (arith, n.few_stations, c.check_file.auto.places)))

pub invariant_of-stations : goal.invariant_of-stations
invariant_of-stations c =
    let n = counts c.args.bytes.now c.args.head.now c.requires in
    let rows = c.files_in-files.result.stations in
    let count = c.args.head.now.stations.rows in
    let places = take count c.check_file.new.places in
    let long : length places ≡ count = length-take-le count c.check_file.new.places (omega (arith, n.few_stations, c.check_file.auto.places)) in
    let i = c.in_ok-check_file.ensures.index refl (omega (arith, n.few_stations)) in
    let all : min count 4096 ≡ length places = omega (arith, n.few_stations, long) in
    record {
      index = ∣ subst (λ w. Indexed station_meaning rows.supplier (row_in rows) w places) (sym long) i.0 ∣₁;
      sorted = i.1 nat_cmp_total;
      sound = ∣ subst (λ w. SoundRows station_meaning rows.supplier (row_in rows) w) all (c.in_ok-check_file.ensures.sound refl) ∣₁;
    }

pub returns : goal.returns
returns c =
    let files = c.files_in-files in
    let n = counts c.args.bytes.now c.args.head.now c.requires in
    let long = length-take-le c.args.head.now.stations.rows c.check_file.new.places (omega (arith, n.few_stations, c.check_file.auto.places)) in
    answered c.args.bytes.now _ c.requires files.result files.ensures.stations files.ensures.series files.ensures.tables _ _ _ refl refl c.check_file-2.auto.places _ long
    None None None _ c.in_ok-check_file.ensures.first c.in_ok-check_file-2.ensures.first c.in_ok-check_file-3.ensures.first c.check_across.ensures
