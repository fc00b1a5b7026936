-- A fresh book and its first delivery, and what follows it.
use Rattle.std.proofs.Common.{◌≡◌, ℕ, ◌+◌, Bool, true, cond, ◌&&◌, ◌||◌, eqb, leb, length, Some, None, Ok, ◌∙◌, arith}
use Rattle.std.specs.Ordering.{is_lt, ordering_then, nat_cmp}
use Rattle.std.proofs.lemmas.Bool.{le-leb}
use Rattle.fields.specs.Bytes.{columns, value}
use Rattle.kinds.specs.FareTable.{fare_table_meaning}
use Rattle.kinds.specs.Series.{series_meaning}
use Rattle.kinds.specs.Station.{station_meaning}
use Rattle.deliveries.specs.declared.head.Head.{Head}
use Rattle.deliveries.specs.Delivery.{series, station, supplier}
use Rattle.deliveries.specs.Head.{Bears}
use Rattle.registers.specs.Admission.{entries_after, register_fault}
use Rattle.books.specs.declared.fault.LineFault.TheVariants.{DoesNotFollow}
use Rattle.books.specs.declared.lines.Line.{Line}
use Rattle.books.specs.Admission.{Opened, book_fault, first_of, judged, on_line, table}
use Rattle.books.specs.Lines.{follows_line, judged_line, line_fault, line_of}
use Rattle.books.specs.State.{State}
use Rattle.examples.specs.Worked.{On, no_rows}

-- what follows a line depends on the two days and versions alone
abbrev follows_by : ℕ → ℕ → ℕ → ℕ → ℕ → ℕ → ℕ → ℕ → Bool
follows_by y m d v ly lm ld lv =
    (is_lt (ordering_then (nat_cmp ly y) (ordering_then (nat_cmp lm m) (nat_cmp ld d))) && eqb v 1)
    || ((eqb ly y && (eqb lm m && eqb ld d)) && eqb v (lv + 1))

pub following : (l : Line) (h : Head) (year month day version : ℕ) → On l.first_day 2026 1 1 → l.version ≡ 1 → On h.first_day year month day → h.version ≡ version →
    follows_line l h ≡ follows_by year month day version 2026 1 1 1
following l h year month day version p q u v =
    λ i. follows_by (u.0 i) (u.1 i) (u.2 i) (v i) (p.0 i) (p.1 i) (p.2 i) (q i)

pub fresh : (st : State) (h : Head) → Opened st → Bears no_rows h → book_fault st h no_rows ≡ None
unfolding book_fault line_fault register_fault entries_after columns value
fresh st h o b =
    (λ i. first_of
    (on_line (judged_line (line_of (o.lines i) (b.supplier i)) (leb 16 (length (o.lines i))) (o.receipts i) h))
    (judged (register_fault station_meaning (supplier no_rows) (station no_rows) (o.stations i) h.first_day.year 0) (length (entries_after station_meaning (supplier no_rows) (station no_rows) (o.stations i) h.first_day.year 0)) st.station_room)
    (judged (register_fault series_meaning (supplier no_rows) (series no_rows) (o.series i) h.first_day.year 0) (length (entries_after series_meaning (supplier no_rows) (series no_rows) (o.series i) h.first_day.year 0)) st.series_room)
    (judged (register_fault fare_table_meaning (supplier no_rows) (table no_rows) (o.tables i) h.first_day.year 0) (length (entries_after fare_table_meaning (supplier no_rows) (table no_rows) (o.tables i) h.first_day.year 0)) st.table_room))
    ∙ (λ i. first_of (on_line (cond (eqb (b.version i) 1) None (Some DoesNotFollow))) (Ok (fits st.station_room i)) (Ok (fits st.series_room i)) (Ok (fits st.table_room i)))
  where
    fits : (room : ℕ) → leb 0 room ≡ true
    fits room = le-leb 0 room (omega arith)
