use Rattle.std.proofs.Common.{◌≡◌, ◌≤◌, length, take, ap, ◌∙◌, arith}
use Rattle.kinds.specs.FareTable.{fare_table_meaning}
use Rattle.std.specs.Ordering.{nat_cmp}
use Rattle.kinds.specs.Series.{series_meaning}
use Rattle.kinds.specs.Station.{station_meaning}
use Rattle.deliveries.proofs.Heads.{whole}
use Rattle.deliveries.proofs.Parts.{counts}
use Rattle.books.specs.Admission.{book_fault, first_of}
use Rattle.books.specs.Lines.{line_fault}
use Rattle.books.proofs.Judging.{all_taken, file_indexed, file_judged, line_is}
use Rattle.books.proofs.book.Book.judge.Goals as goal

pub returns : goal.returns
unfolding book_fault
returns c =
    let self = c.args.self.now in
    let d = c.args.delivery.now in
    let bs = d.bytes.now in
    let head = c.head-head.result in
    let files = c.files-files.ensures in
    let n = counts bs head (whole bs head files.sound.head c.head-head.ensures.1) in
    let few : length c.args.stations.now ≤ 4096 = omega (arith, c.requires.stations, n.stations, n.few_stations) in
    let few_series : length c.args.series.now ≤ 4096 = omega (arith, c.requires.series, n.all_series, n.few_series) in
    let few_tables : length c.args.tables.now ≤ 4096 = omega (arith, c.requires.tables, n.tables, n.few_tables) in
    let year : c.year-year.result ≡ d.head.first_day.year = c.year-year.ensures ∙ ap (λ h. h.first_day.year) c.head-head.ensures.0 in
    let line = line_is c.check.result _ (c.check.ensures ∙ ap (line_fault (take self.lines.used self.lines.lines) self.lines.receipts) c.head-head.ensures.0) in
    let stations = file_judged station_meaning bs _ _ c.files-files.result.stations files.stations _ _ d.head.first_day.year _ _ _ c.check-2.result c.requires.stations year
    (c.check-2.ensures.first few) in
    let series = file_judged series_meaning bs _ _ c.files-files.result.series files.series _ _ d.head.first_day.year _ _ _ c.check-3.result c.requires.series year
    (c.check-3.ensures.first few_series) in
    let tables = file_judged fare_table_meaning bs _ _ c.files-files.result.tables files.tables _ _ d.head.first_day.year _ _ _ c.check-4.result c.requires.tables year
    (c.check-4.ensures.first few_tables) in
    record {
      fault = c.first_fault.ensures ∙ (λ i. first_of (line i) (stations i) (series i) (tables i));
      index = λ ok.
          let taken = all_taken c.first_fault.result c.check.result c.check-2.result c.check-3.result c.check-4.result c.first_fault.ensures ok in
          record {
            stations = file_indexed station_meaning bs _ _ c.files-files.result.stations files.stations nat_cmp _ (c.check-2.ensures.index few taken.0);
            series = file_indexed series_meaning bs _ _ c.files-files.result.series files.series nat_cmp _ (c.check-3.ensures.index few_series taken.1);
            tables = file_indexed fare_table_meaning bs _ _ c.files-files.result.tables files.tables nat_cmp _ (c.check-4.ensures.index few_tables taken.2);
            station_count_is = c.check-2.auto.places ∙ c.requires.stations;
            series_count_is = c.check-3.auto.places ∙ c.requires.series;
            table_count_is = c.check-4.auto.places ∙ c.requires.tables;
          };
    }
