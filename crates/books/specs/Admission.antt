-- What a book refuses a sound delivery for, and what it holds after an admission.
use Rattle.std.specs.Prelude.{◌≡◌, ℕ, ◌+◌, Bool, cond, List, [], length, Some, None, Ok, Err, Option, Result, nat_le}
use Rattle.std.specs.List.Sorted.{IsPermutation}
use Rattle.kinds.specs.declared.fare_table.FareTable.{FareTable}
use Rattle.kinds.specs.declared.fare_table.FareTableTold.{FareTableTold}
use Rattle.kinds.specs.declared.series.SeriesTold.{SeriesTold}
use Rattle.kinds.specs.declared.station.StationTold.{StationTold}
use Rattle.kinds.specs.FareTable.{fare_table_meaning}
use Rattle.kinds.specs.Series.{series_meaning}
use Rattle.kinds.specs.Station.{station_meaning}
use Rattle.files.specs.Files.{record_at}
use Rattle.files.specs.First.{or_else}
use Rattle.deliveries.specs.declared.head.Head.{Head}
use Rattle.deliveries.specs.Delivery.{series, series_count, station, station_count, supplier, table_count, table_row}
use Rattle.registers.specs.declared.entry.Entry.{Entry}
use Rattle.registers.specs.declared.fault.RegisterFault.{RegisterFault}
use Rattle.registers.specs.Admission.{entries_after, register_fault}
use Rattle.books.specs.declared.fault.BookFault.{BookFault}
use Rattle.books.specs.declared.fault.BookFault.TheVariants as fault
use Rattle.books.specs.declared.fault.LineFault.{LineFault}
use Rattle.books.specs.Lines.{line_after, line_fault, noted}
use Rattle.books.specs.State.{State}

-- the fare table in a row
abbrev pub table : List ℕ → ℕ → FareTable
table bs k = record_at fare_table_meaning (supplier bs) (table_row bs) k

abbrev pub lettered : ℕ → Result Bool RegisterFault → Result Bool BookFault
lettered letter (Ok fits) = Ok fits
lettered letter (Err e) = Err (fault.Entry letter e)

-- 18, where the entries do not fit
abbrev pub over : ℕ → Bool → Option BookFault
over letter fits = cond fits None (Some (fault.Full letter))

-- the first fault of the runs
abbrev pub first_over : Bool → Bool → Bool → Option BookFault
first_over g s p = or_else (over 71 g) (or_else (over 83 s) (over 80 p))

-- the first fault of the line, then of the files, and then of the runs: letters G, S and P
abbrev pub first_of : Result (Unit {0}) LineFault → Result Bool RegisterFault → Result Bool RegisterFault → Result Bool RegisterFault → Option BookFault
first_of (Err e) g s p = Some (fault.Line e)
first_of (Ok _) (Err e) s p = Some (fault.Entry 71 e)
first_of (Ok _) (Ok g) (Err e) p = Some (fault.Entry 83 e)
first_of (Ok _) (Ok g) (Ok s) (Err e) = Some (fault.Entry 80 e)
first_of (Ok _) (Ok g) (Ok s) (Ok p) = first_over g s p

-- where there is no fault, whether the entries fit
abbrev pub judged : Option RegisterFault → ℕ → ℕ → Result Bool RegisterFault
judged None entries room = Ok (nat_le entries room)
judged (Some e) entries room = Err e

abbrev pub on_line : Option LineFault → Result (Unit {0}) LineFault
on_line None = Ok tt
on_line (Some e) = Err e

-- h is the head of a sound delivery, and bs its bytes
module _ (st : State) (h : Head) (bs : List ℕ) where
  abbrev pub year : ℕ
  year = h.first_day.year

  -- the entries that the rules define
  abbrev pub stations_after : List (Entry ℕ StationTold)
  stations_after = entries_after station_meaning (supplier bs) (station bs) st.stations year (station_count bs)

  abbrev pub series_after : List (Entry ℕ SeriesTold)
  series_after = entries_after series_meaning (supplier bs) (series bs) st.series year (series_count bs)

  abbrev pub tables_after : List (Entry ℕ FareTableTold)
  tables_after = entries_after fare_table_meaning (supplier bs) (table bs) st.tables year (table_count bs)

  -- 11 to 13 on the line, 14 to 17 file by file, and then 18 for each file
  unfoldable pub book_fault : Option BookFault
  book_fault =
      first_of (on_line (line_fault st.lines st.receipts h))
      (judged (register_fault station_meaning (supplier bs) (station bs) st.stations year (station_count bs)) (length stations_after) st.station_room)
      (judged (register_fault series_meaning (supplier bs) (series bs) st.series year (series_count bs)) (length series_after) st.series_room)
      (judged (register_fault fare_table_meaning (supplier bs) (table bs) st.tables year (table_count bs)) (length tables_after) st.table_room)

  -- what the book holds after the admission; only the order of the entries is left open
  pub record Admitted (after : State) : Type 0 where
    pub stations : IsPermutation stations_after after.stations
    pub series : IsPermutation series_after after.series
    pub tables : IsPermutation tables_after after.tables
    pub lines : after.lines ≡ noted st.lines (line_after h)
    pub receipts : after.receipts ≡ st.receipts + 1
    pub station_room : after.station_room ≡ st.station_room
    pub series_room : after.series_room ≡ st.series_room
    pub table_room : after.table_room ≡ st.table_room

-- an open book
pub record Opened (st : State) : Type 0 where
  pub stations : st.stations ≡ []
  pub series : st.series ≡ []
  pub tables : st.tables ≡ []
  pub lines : st.lines ≡ []
  pub receipts : st.receipts ≡ 0
