use Rattle.std.proofs.Common.{◌≡◌, ℕ, ◌<◌, length, None}
use Rattle.kinds.specs.Series.{series_meaning}
use Rattle.kinds.specs.Station.{station_meaning}
use Rattle.files.specs.Rows.{record_in}
use Rattle.deliveries.specs.Across.{series_fault}
use Rattle.deliveries.proofs.across.Stations.check_across.Given as goal

abbrev pub invariant-loop-i : goal.invariant-loop-i
invariant-loop-i l =
    (k : ℕ) → k < l.i → series_fault (record_in station_meaning l.self.rows) (length l.self.places.now) (record_in series_meaning l.series k) ≡ None
