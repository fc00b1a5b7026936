-- What a book holds: the entries of three runs, the lines, the receipts given, and the lengths of the runs.
use Rattle.std.specs.Prelude.{ℕ, List, length, take}
use Rattle.kinds.specs.declared.fare_table.FareTableTold.{FareTableTold}
use Rattle.kinds.specs.declared.series.SeriesTold.{SeriesTold}
use Rattle.kinds.specs.declared.station.StationTold.{StationTold}
use Rattle.registers.specs.declared.entry.Entry.{Entry}
use Rattle.books.specs.declared.book.Book.{Book}
use Rattle.books.specs.declared.lines.Line.{Line}

pub record State : Type 0 where
  pub stations : List (Entry ℕ StationTold)
  pub series : List (Entry ℕ SeriesTold)
  pub tables : List (Entry ℕ FareTableTold)
  pub lines : List Line
  pub receipts : ℕ
  pub station_room : ℕ
  pub series_room : ℕ
  pub table_room : ℕ

abbrev pub state_of : Book → State
state_of b =
    record {
      stations = take b.stations.used b.stations.entries.now;
      series = take b.series.used b.series.entries.now;
      tables = take b.tables.used b.tables.entries.now;
      lines = take b.lines.used b.lines.lines;
      receipts = b.lines.receipts;
      station_room = length b.stations.entries.now;
      series_room = length b.series.entries.now;
      table_room = length b.tables.entries.now;
    }
