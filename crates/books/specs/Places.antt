-- The sorted places of the rows of a delivery's three files.
use Rattle.std.specs.Prelude.{◌≡◌, ℕ, List, length}
use Rattle.indexes.specs.declared.Place.{Place}
use Rattle.kinds.specs.FareTable.{fare_table_meaning}
use Rattle.std.specs.Ordering.{nat_cmp}
use Rattle.kinds.specs.Series.{series_meaning}
use Rattle.kinds.specs.Station.{station_meaning}
use Rattle.deliveries.specs.Delivery.{series_count, series_row, station_count, station_row, supplier, table_count, table_row}
use Rattle.registers.specs.Indexes.{Index}

pub record Places (bs : List ℕ) (gs ss ps : List (Place ℕ)) : Type 0 where
  pub stations : Index station_meaning (supplier bs) (station_row bs) nat_cmp gs
  pub series : Index series_meaning (supplier bs) (series_row bs) nat_cmp ss
  pub tables : Index fare_table_meaning (supplier bs) (table_row bs) nat_cmp ps
  pub station_count_is : length gs ≡ station_count bs
  pub series_count_is : length ss ≡ series_count bs
  pub table_count_is : length ps ≡ table_count bs
