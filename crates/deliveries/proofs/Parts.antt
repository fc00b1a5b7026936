-- The rows of a delivery's files by its bytes, and the first fault of all of them.
use Rattle.std.proofs.Common.{◌≡◌, ℕ, ◌≤◌, min, List, drop, Option, ap, ◌∙◌, arith}
use Rattle.kinds.specs.FareTable.{fare_table_meaning}
use Rattle.kinds.specs.Meaning.{Meaning}
use Rattle.kinds.specs.Series.{series_meaning}
use Rattle.kinds.specs.Station.{station_meaning}
use Rattle.fields.specs.Bytes.{columns, value}
use Rattle.files.specs.declared.rows.Rows.{Rows}
use Rattle.files.specs.Files.{file_fault, record_at, row_of}
use Rattle.files.specs.First.{first, or_else}
use Rattle.files.specs.Rows.{record_in, row_in}
use Rattle.deliveries.specs.declared.fault.DeliveryFault.{DeliveryFault}
use Rattle.deliveries.specs.declared.head.Head.{Head}
use Rattle.deliveries.specs.declared.reading.Files.{Files}
use Rattle.deliveries.specs.Across.{series_fault}
use Rattle.deliveries.specs.Delivery.{RowsOf, beside, in_file, rows_fault, series, series_count, series_row, series_start, station, station_count, station_row, supplier, table_count, table_row, table_start}
use Rattle.deliveries.specs.Head.{Whole}
use Rattle.deliveries.proofs.Heads.{limits}

-- the counts of a head, which are small
pub record Counts (bs : List ℕ) (h : Head) : Type 0 where
  pub stations : h.stations.rows ≡ station_count bs
  pub all_series : h.series.rows ≡ series_count bs
  pub tables : h.tables.rows ≡ table_count bs
  pub few_stations : h.stations.rows ≤ 4096
  pub few_series : h.series.rows ≤ 4096
  pub few_tables : h.tables.rows ≤ 4096

pub counts : (bs : List ℕ) (h : Head) → Whole bs h → Counts bs h
counts bs h w =
    let l = limits bs w.kept in
    let g = ap (λ e. e.rows) w.bears.stations in
    let s = ap (λ e. e.rows) w.bears.series in
    let p = ap (λ e. e.rows) w.bears.tables in
    record {
      stations = g;
      all_series = s;
      tables = p;
      few_stations = omega (arith, g, l.station_rows);
      few_series = omega (arith, s, l.series_rows);
      few_tables = omega (arith, p, l.table_rows);
    }

-- the first fault from its four parts
pub first_of_rows : (bs : List ℕ) (a b c d : Option DeliveryFault) →
    a ≡ in_file 71 (file_fault station_meaning (supplier bs) (station_row bs) (station_count bs)) →
    b ≡ in_file 83 (file_fault series_meaning (supplier bs) (series_row bs) (series_count bs)) →
    c ≡ in_file 80 (file_fault fare_table_meaning (supplier bs) (table_row bs) (table_count bs)) →
    d ≡ beside (first (λ k. series_fault (station bs) (station_count bs) (series bs k)) (series_count bs)) →
    or_else a (or_else b (or_else c d)) ≡ rows_fault bs
unfolding rows_fault
first_of_rows bs a b c d p q r s = λ i. or_else (p i) (or_else (q i) (or_else (r i) (s i)))

-- a file's fault with its letter, as the bytes have it
file_bytes : {R T N K : Type 0} (m : Meaning R T N K) (bs : List ℕ) (start len : ℕ) (rows : Rows) → RowsOf bs start len rows →
    (letter count n room : ℕ) → count ≡ n → count ≤ 4096 → room ≡ 4096 →
    in_file letter (file_fault m rows.supplier (row_in rows) (min count (min room 4096))) ≡ in_file letter (file_fault m (supplier bs) (λ k. row_of (drop start bs) len k) n)
file_bytes m bs start len rows of letter count n room e few full =
    let all : min count (min room 4096) ≡ n = omega (arith, e, few, full) in
    λ i. in_file letter (file_fault m (of.supplier_is i) (λ k. row_of (of.bytes i) (of.length_is i) k) (all i))

-- the series beside the stations, as the bytes have them
across_bytes : (bs : List ℕ) (gl sl : ℕ) (g s : Rows) → RowsOf bs 47 gl g → RowsOf bs (series_start bs) sl s → (n c : ℕ) → n ≡ station_count bs → c ≡ series_count bs →
    beside (first (λ k. series_fault (record_in station_meaning g) n (record_in series_meaning s k)) c)
    ≡ beside (first (λ k. series_fault (record_at station_meaning (supplier bs) (λ k. row_of (drop 47 bs) gl k)) (station_count bs) (record_at series_meaning (supplier bs) (λ k. row_of (drop (series_start bs) bs) sl k) k)) (series_count bs))
across_bytes bs gl sl g s og os n c en ec =
    λ i. beside
    (first
    (λ k. series_fault
    (record_at station_meaning (og.supplier_is i) (λ k. row_of (og.bytes i) (og.length_is i) k)) (en i)
    (record_at series_meaning (os.supplier_is i) (λ k. row_of (os.bytes i) (os.length_is i) k) k))
    (ec i))

-- the first fault of the rows by what reading each file answers, each with room for 4096 places, and by what the series
-- beside all stations answer
module _ (bs : List ℕ) (h : Head) (w : Whole bs h) (files : Files)
    (g : RowsOf bs 47 (value (columns 25 27 bs)) files.stations)
    (s : RowsOf bs (series_start bs) (value (columns 28 30 bs)) files.series)
    (p : RowsOf bs (table_start bs) (value (columns 31 33 bs)) files.tables)
    (x y z : ℕ) (x_is : x ≡ 4096) (y_is : y ≡ 4096) (z_is : z ≡ 4096)
    (many : ℕ) (many_is : many ≡ h.stations.rows) where
  pub answered : (a b c d : Option DeliveryFault) →
      a ≡ in_file 71 (file_fault station_meaning files.stations.supplier (row_in files.stations) (min h.stations.rows (min x 4096))) →
      b ≡ in_file 83 (file_fault series_meaning files.series.supplier (row_in files.series) (min h.series.rows (min y 4096))) →
      c ≡ in_file 80 (file_fault fare_table_meaning files.tables.supplier (row_in files.tables) (min h.tables.rows (min z 4096))) →
      d ≡ beside (first (λ k. series_fault (record_in station_meaning files.stations) many (record_in series_meaning files.series k)) h.series.rows) →
      or_else a (or_else b (or_else c d)) ≡ rows_fault bs
  answered a b c d ea eb ec ed =
      let n = counts bs h w in
      first_of_rows bs a b c d
      (ea ∙ file_bytes station_meaning bs _ _ files.stations g 71 _ _ x n.stations n.few_stations x_is)
      (eb ∙ file_bytes series_meaning bs _ _ files.series s 83 _ _ y n.all_series n.few_series y_is)
      (ec ∙ file_bytes fare_table_meaning bs _ _ files.tables p 80 _ _ z n.tables n.few_tables z_is)
      (ed ∙ across_bytes bs _ _ files.stations files.series g s _ _ (many_is ∙ n.stations) n.all_series)
