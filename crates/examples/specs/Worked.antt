-- Worked examples of the format, in one statement on the definitions that the contracts use.
use Rattle.std.specs.Prelude.{◌≡◌, ℕ, Bool, true, false, List, ◌++◌, is_ok, Some, None, Err, codes}
use Rattle.fields.specs.declared.date.Date.{Date}
use Rattle.fields.specs.declared.fault.FieldFault.TheVariants.{NotAllowed}
use Rattle.fields.specs.declared.flags.KeyFlag.TheVariants.{Deletion, New}
use Rattle.fields.specs.Calendar.{date}
use Rattle.kinds.specs.declared.station.Station.{Station}
use Rattle.kinds.specs.FareTable.{fare_table_meaning}
use Rattle.kinds.specs.Meaning.{compares, reads}
use Rattle.kinds.specs.Station.{station_in, station_meaning, told_columns}
use Rattle.deliveries.specs.declared.fault.HeadFault.TheVariants.{BrokenField}
use Rattle.deliveries.specs.declared.head.Head.{Head}
use Rattle.deliveries.specs.Head.{Bears, head_fault}
use Rattle.registers.specs.declared.entry.Standing.TheVariants.{Retired}
use Rattle.registers.specs.declared.fault.EntryFault.TheVariants.{Blocked}
use Rattle.registers.specs.Admission.{beside, entry_of}
use Rattle.books.specs.declared.lines.Line.{Line}
use Rattle.books.specs.Admission.{Admitted, Opened, book_fault}
use Rattle.books.specs.Lines.{follows_line}
use Rattle.books.specs.State.{State}

-- the row of station 07115 with a key flag, the flag of its name, and its zone with that flag
abbrev pub station_row : List ℕ → List ℕ → List ℕ → List ℕ
station_row key name-flag zone =
    codes "008107115" ++ (key ++ (codes "     Wien Hauptbahnhof                  " ++ (name-flag
    ++ (codes "Wien Hbf         0                 0" ++ zone))))

-- the row of a fare table with its number and its file name
abbrev pub fare_table_row : List ℕ → List ℕ → List ℕ
fare_table_row number name =
    codes "0081" ++ (number ++ (codes "01Normalpreis                   "
    ++ (codes "                                                            "
    ++ (codes "                              "
    ++ (codes "                              "
    ++ (codes "0EUR0  00        " ++ (name ++ codes "                      ")))))))

-- the head of supplier 0081's first delivery of 2026, without rows
abbrev pub no_rows : List ℕ
no_rows = codes "30000000000000000000000009207320700812026010101"

-- a day of the calendar
abbrev pub On : Date → ℕ → ℕ → ℕ → Type 0
On d year month day = (d.year ≡ year) × (d.month ≡ month) × (d.day ≡ day)

-- after 1 January 2026 version 01, whether this day of this version follows
abbrev pub FollowsSo : ℕ → ℕ → ℕ → ℕ → Bool → Type 0
FollowsSo year month day version answer =
    (l : Line) (h : Head) → On l.first_day 2026 1 1 → l.version ≡ 1 → On h.first_day year month day → h.version ≡ version → follows_line l h ≡ answer

pub record Examples : Type 0 where
  -- a head of supplier 0081 with no rows, and the same with a station length of 91
  pub head_read : head_fault (codes "30000000000000000000000009207320700812026010101") ≡ None
  pub head_supplier : (h : Head) → Bears (codes "30000000000000000000000009207320700812026010101") h → h.supplier ≡ 81
  pub length_91 : head_fault (codes "30000000000000000000000009107320700812026010101") ≡ Some (BrokenField 6)
  -- the calendar
  pub leap_day : date (codes "20240229") ≡ Some (2024, 2, 29)
  pub no_leap_day : date (codes "20230229") ≡ None
  pub full_century : date (codes "21000229") ≡ None
  pub month_13 : date (codes "20261301") ≡ None
  -- a fare table's number is from 1000 on
  pub table_0999 : reads fare_table_meaning 81 (fare_table_row (codes "0999") (codes "09990081")) ≡ Err (NotAllowed 2)
  pub table_1000 : is_ok (reads fare_table_meaning 81 (fare_table_row (codes "1000") (codes "10000081"))) ≡ true
  -- an amendment flag 3 in a new row, and in one that is not new
  pub flag_3_in_new : reads station_meaning 81 (station_row (codes "1") (codes "3") (codes "    0")) ≡ Err (NotAllowed 6)
  pub flag_3 : is_ok (reads station_meaning 81 (station_row (codes "0") (codes "3") (codes "    0"))) ≡ true
  -- a zone that goes from blank to 0000
  pub zone_flag_0 :
      compares station_meaning (told_columns (station_row (codes "1") (codes "0") (codes "     ")))
      (station_in 81 (station_row (codes "0") (codes "0") (codes "00000"))) ≡ None
  pub zone_flag_3 :
      compares station_meaning (told_columns (station_row (codes "1") (codes "0") (codes "     ")))
      (station_in 81 (station_row (codes "0") (codes "0") (codes "00003"))) ≡ Some 12
  -- a fresh book admits the head without rows, with receipt 1
  pub fresh_book : (st : State) (h : Head) → Opened st → Bears no_rows h → book_fault st h no_rows ≡ None
  pub first_receipt : (st after : State) (h : Head) → Opened st → Admitted st h no_rows after → after.receipts ≡ 1
  -- what follows the first version of 1 January 2026
  pub next_version : FollowsSo 2026 1 1 2 true
  pub next_day : FollowsSo 2026 1 2 1 true
  pub version_left_out : FollowsSo 2026 1 1 3 false
  pub next_day_second_version : FollowsSo 2026 1 2 2 false
  pub day_before : FollowsSo 2025 12 31 1 false
  -- a number that is deleted on 30 May 2005 is blocked on 31 December 2007 and free on 1 January 2008
  pub deleted_on : date (codes "20050530") ≡ Some (2005, 5, 30)
  pub retired : (r : Station) → r.key_flag ≡ Deletion → (entry_of station_meaning 81 2005 r).standing ≡ Retired 2005
  pub too_early_on : date (codes "20071231") ≡ Some (2007, 12, 31)
  pub blocked : (r : Station) → beside station_meaning 2007 r (Some (Retired 2005)) ≡ Some (Blocked r.number)
  pub free_on : date (codes "20080101") ≡ Some (2008, 1, 1)
  pub free : (r : Station) → r.key_flag ≡ New → beside station_meaning 2008 r (Some (Retired 2005)) ≡ None
