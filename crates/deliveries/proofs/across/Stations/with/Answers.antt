use Rattle.std.proofs.Common.{◌≡◌, sym, ◌∙◌, rules}
use Rattle.std.specs.Bool.{then_some}
use Rattle.std.specs.Cmp.{nat_cmp_total}
use Rattle.fields.specs.Flags.{stays}
use Rattle.kinds.specs.Station.{station_meaning}
use Rattle.files.specs.Rows.{record_in, row_in}
use Rattle.deliveries.proofs.Ends.{found, none_found}
use Rattle.deliveries.proofs.across.Stations.with.Goals as goal

pub returns-in_err-row : goal.returns-in_err-row
returns-in_err-row c =
    let stations = c.args.self.now in
    c.from_residual.ensures
    ∙ sym (none_found stations.rows.supplier (row_in stations.rows) _ stations.places.now stations.index stations.sound c.args.code (c.in_err-row.ensures nat_cmp_total stations.sorted))

pub returns : goal.returns
returns c =
    let stations = c.args.self.now in
    let station = record_in station_meaning stations.rows c.in_ok-row.row in
    let told : c.then_some.result ≡ then_some (stays station.key_flag) station = search rules in
    told
    ∙ found stations.rows.supplier (row_in stations.rows) _ stations.places.now stations.index stations.sound c.args.code c.in_ok-row.row (c.in_ok-row.ensures nat_cmp_total stations.sorted)
