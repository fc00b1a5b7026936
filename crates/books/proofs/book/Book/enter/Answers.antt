use Rattle.std.proofs.Common.{◌≡◌, take, sym, ap, ◌∙◌}
use Rattle.kinds.specs.FareTable.{fare_table_meaning}
use Rattle.std.specs.Ordering.{nat_cmp}
use Rattle.kinds.specs.Series.{series_meaning}
use Rattle.kinds.specs.Station.{station_meaning}
use Rattle.books.specs.Admission.{book_fault}
use Rattle.books.specs.Lines.{line_after, line_fault, noted}
use Rattle.books.proofs.Judging.{clear, file_done}
use Rattle.books.proofs.book.Book.enter.Goals as goal
use Rattle.books.proofs.book.Book.enter.Goals.{After-note}

pub note-requires : goal.note-requires
unfolding book_fault
note-requires c =
    let self = c.args.self.now in
    ap (line_fault (take self.lines.used self.lines.lines) self.lines.receipts) c.head-head.ensures.0 ∙ (clear _ _ _ _ _ _ _ _ _ _ c.requires.none).line_none

pub returns : goal.returns
unfolding book_fault
returns c =
    let self = c.args.self.now in
    let d = c.args.delivery.now in
    let bs = d.bytes.now in
    let files = c.files-files.ensures in
    let places = c.requires.places in
    let all = clear _ _ _ _ _ _ _ _ _ _ c.requires.none in
    let year : c.year-year.result ≡ d.head.first_day.year = c.year-year.ensures ∙ ap (λ h. h.first_day.year) c.head-head.ensures.0 in
    record {
      receipt = sym c.note.ensures.receipt.1;
      admitted = record {
        stations = file_done station_meaning bs _ _ c.files-files.result.stations files.stations nat_cmp self.stations.entries.now _ self.stations.used _ _ _ c.args.stations.now
            year places.station_count_is self.stations.within self.stations.ascend places.stations files.sound.stations all.stations all.stations_fit c.enter.ensures.entered;
        series = file_done series_meaning bs _ _ c.files-files.result.series files.series nat_cmp self.series.entries.now _ self.series.used _ _ _ c.args.series.now
            year places.series_count_is self.series.within self.series.ascend places.series files.sound.all_series all.series all.series_fit c.enter-2.ensures.entered;
        tables = file_done fare_table_meaning bs _ _ c.files-files.result.tables files.tables nat_cmp self.tables.entries.now _ self.tables.used _ _ _ c.args.tables.now
            year places.table_count_is self.tables.within self.tables.ascend places.tables files.sound.tables all.tables all.tables_fit c.enter-3.ensures.entered;
        lines = c.note.ensures.lines ∙ ap (λ h. noted (take self.lines.used self.lines.lines) (line_after h)) c.head-head.ensures.0;
        receipts = c.note.ensures.receipt.1 ∙ c.note.ensures.receipt.0;
        station_room = c.enter.ensures.run;
        series_room = c.enter-2.ensures.run;
        table_room = c.enter-3.ensures.run;
      };
    }
