-- A whole delivery: its head, the rows of three files, and its series beside its stations.
use Rattle.std.specs.Prelude.{◌≡◌, ℕ, ◌+◌, ◌<◌, true, List, drop, Some, None, Option}
use Rattle.std.specs.Result.{result_err}
use Rattle.kinds.specs.declared.series.Series.{Series}
use Rattle.kinds.specs.declared.station.Station.{Station}
use Rattle.kinds.specs.FareTable.{fare_table_meaning}
use Rattle.kinds.specs.Series.{series_meaning}
use Rattle.kinds.specs.Station.{station_meaning}
use Rattle.fields.specs.Bytes.{columns, value}
use Rattle.fields.specs.Flags.{stays}
use Rattle.files.specs.declared.fault.FileFault.{FileFault}
use Rattle.files.specs.declared.fault.RowFault.{RowFault}
use Rattle.files.specs.declared.rows.Rows.{Rows}
use Rattle.files.specs.Files.{SoundRows, file_fault, record_at, row_of, told}
use Rattle.files.specs.First.{first, or_else}
use Rattle.deliveries.specs.declared.fault.AcrossFault.{AcrossFault}
use Rattle.deliveries.specs.declared.fault.DeliveryFault.{DeliveryFault}
use Rattle.deliveries.specs.declared.fault.DeliveryFault.TheVariants as fault
use Rattle.deliveries.specs.declared.fault.HeadFault.{HeadFault}
use Rattle.deliveries.specs.declared.head.Head.{Head}
use Rattle.deliveries.specs.Across.{Joins, series_fault}
use Rattle.deliveries.specs.Head.{Kept, bytes_in, extent, head_fault}

-- what the head says
abbrev pub supplier : List ℕ → ℕ
supplier bs = value (columns 34 37 bs)

abbrev pub station_count : List ℕ → ℕ
station_count bs = value (columns 10 14 bs)

abbrev pub series_count : List ℕ → ℕ
series_count bs = value (columns 15 19 bs)

abbrev pub table_count : List ℕ → ℕ
table_count bs = value (columns 20 24 bs)

-- where the rows of each file begin
abbrev pub series_start : List ℕ → ℕ
series_start bs = 47 + bytes_in (extent bs 10 14 25 27)

abbrev pub table_start : List ℕ → ℕ
table_start bs = series_start bs + bytes_in (extent bs 15 19 28 30)

-- the rows of each file, counted from 0
abbrev pub station_row : List ℕ → ℕ → List ℕ
station_row bs k = row_of (drop 47 bs) (value (columns 25 27 bs)) k

abbrev pub series_row : List ℕ → ℕ → List ℕ
series_row bs k = row_of (drop (series_start bs) bs) (value (columns 28 30 bs)) k

abbrev pub table_row : List ℕ → ℕ → List ℕ
table_row bs k = row_of (drop (table_start bs) bs) (value (columns 31 33 bs)) k

-- the records in them
abbrev pub station : List ℕ → ℕ → Station
station bs k = record_at station_meaning (supplier bs) (station_row bs) k

abbrev pub series : List ℕ → ℕ → Series
series bs k = record_at series_meaning (supplier bs) (series_row bs) k

-- a fault in its place: letters G, S and P
abbrev pub at_head : Option HeadFault → Option DeliveryFault
at_head None = None
at_head (Some e) = Some (fault.Head e)

abbrev pub lettered : ℕ → Option FileFault → Option DeliveryFault
lettered letter None = None
lettered letter (Some e) = Some (fault.Row letter e)

abbrev pub in_file : ℕ → Option (ℕ × RowFault) → Option DeliveryFault
in_file letter o = lettered letter (result_err (told o))

abbrev pub beside : Option (ℕ × AcrossFault) → Option DeliveryFault
beside None = None
beside (Some p) = Some (fault.Across (p.0 + 1) p.1)

-- the first fault of the rows, file by file, and then of the series beside the stations
unfoldable pub rows_fault : List ℕ → Option DeliveryFault
rows_fault bs =
    or_else (in_file 71 (file_fault station_meaning (supplier bs) (station_row bs) (station_count bs)))
    (or_else (in_file 83 (file_fault series_meaning (supplier bs) (series_row bs) (series_count bs)))
    (or_else (in_file 80 (file_fault fare_table_meaning (supplier bs) (table_row bs) (table_count bs)))
    (beside (first (λ k. series_fault (station bs) (station_count bs) (series bs k)) (series_count bs)))))

-- the first fault of a delivery
unfoldable pub delivery_fault : List ℕ → Option DeliveryFault
delivery_fault bs = or_else (at_head (head_fault bs)) (rows_fault bs)

-- the rules of a delivery, without their order
pub record Sound (bs : List ℕ) : Type 0 where
  pub head : Kept bs
  pub stations : SoundRows station_meaning (supplier bs) (station_row bs) (station_count bs)
  pub all_series : SoundRows series_meaning (supplier bs) (series_row bs) (series_count bs)
  pub tables : SoundRows fare_table_meaning (supplier bs) (table_row bs) (table_count bs)
  -- every series that stays joins stations that stay, and bears their designations
  pub departs : (k : ℕ) → k < series_count bs → stays (series bs k).key_flag ≡ true → Joins (station bs) (station_count bs) (series bs k).told.departure
  pub arrives : (k : ℕ) → k < series_count bs → stays (series bs k).key_flag ≡ true → Joins (station bs) (station_count bs) (series bs k).told.destination

-- the rows of a file that begins after so many bytes
pub record RowsOf (bs : List ℕ) (start length : ℕ) (rows : Rows) : Type 0 where
  pub bytes : rows.bytes.now ≡ drop start bs
  pub length_is : rows.length ≡ length
  pub supplier_is : rows.supplier ≡ supplier bs

-- the head of the empty delivery
pub record Empty (h : Head) : Type 0 where
  pub stations : h.stations ≡ record { rows = 0; length = 92 }
  pub series : h.series ≡ record { rows = 0; length = 73 }
  pub tables : h.tables ≡ record { rows = 0; length = 207 }
  pub supplier : h.supplier ≡ 0
  pub year : h.first_day.year ≡ 2000
  pub month : h.first_day.month ≡ 1
  pub day : h.first_day.day ≡ 1
  pub version : h.version ≡ 1
