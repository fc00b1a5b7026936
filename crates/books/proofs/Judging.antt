-- The first fault of a delivery by the answers of the line and the three registers.
use Rattle.std.proofs.Common.{◌≡◌, ℕ, ◌<◌, ◌≤◌, Bool, true, false, leb, List, length, take, drop, is_ok, Some, None, Ok, Err, Option, Result, Ordering, sym, refl, ap, ◌∙◌, subst, subst₂, MatchResult}
use mathlib.Core.Path.{subst₃}
use Rattle.std.specs.Result.{result_err}
use Rattle.std.specs.List.Sorted.{IsPermutation}
use Rattle.std.proofs.lemmas.Bool.{false≢true, leb-true}
use Rattle.indexes.specs.declared.Place.{Place}
use Rattle.kinds.specs.Meaning.{Meaning}
use Rattle.files.specs.declared.rows.Rows.{Rows}
use Rattle.files.specs.Files.{SoundRows, record_at, row_of}
use Rattle.files.specs.Rows.{row_in}
use Rattle.files.proofs.Firsts.{some_none}
use Rattle.deliveries.specs.Delivery.{RowsOf, supplier}
use Rattle.registers.specs.declared.entry.Entry.{Entry}
use Rattle.registers.specs.declared.fault.RegisterFault.{RegisterFault}
use Rattle.registers.specs.Admission.{Entered, Judged, entries_after, register_fault}
use Rattle.registers.specs.Entries.{Ascending}
use Rattle.registers.specs.Indexes.{Enterable, Index}
use Rattle.books.specs.declared.fault.BookFault.{BookFault}
use Rattle.books.specs.declared.fault.LineFault.{LineFault}
use Rattle.books.specs.Admission.{first_of, first_over, judged, on_line}

pub line_is : (r : Result (Unit {0}) LineFault) (o : Option LineFault) → result_err r ≡ o → r ≡ on_line o
line_is (Ok _) o e = ap on_line e
line_is (Err x) o e = ap on_line e

judged_is : (r : Result Bool RegisterFault) (f : Option RegisterFault) (entries room : ℕ) → MatchResult r (λ fits. (f ≡ None) × (fits ≡ leb entries room)) (λ e. f ≡ Some e) → r ≡ judged f entries room
judged_is (Ok b) f entries room h = ap Ok h.1 ∙ ap (λ o. judged o entries room) (sym h.0)
judged_is (Err e) f entries room h = ap (λ o. judged o entries room) (sym h)

-- the rows that code has are those of the bytes
rows_are : (bs : List ℕ) (start len : ℕ) (rows : Rows) → RowsOf bs start len rows → row_in rows ≡ (λ k. row_of (drop start bs) len k)
rows_are bs start len rows of = λ i k. row_of (of.bytes i) (of.length_is i) k

module _ {R W N K : Type 0} (m : Meaning R W N K) (bs : List ℕ) (start len : ℕ) (rows : Rows) (of : RowsOf bs start len rows) where
  pub file_judged : (es : List (Entry N W)) (y year n count room : ℕ) (r : Result Bool RegisterFault) → n ≡ count → y ≡ year →
      Judged m rows.supplier (record_at m rows.supplier (row_in rows)) es y n room r →
      r ≡ judged (register_fault m (supplier bs) (record_at m (supplier bs) (λ k. row_of (drop start bs) len k)) es year count)
      (length (entries_after m (supplier bs) (record_at m (supplier bs) (λ k. row_of (drop start bs) len k)) es year count)) room
  file_judged es y year n count room r is-count is-year h =
      judged_is r (register_fault m (supplier bs) (record_at m (supplier bs) (λ k. row_of (drop start bs) len k)) es year count)
      (length (entries_after m (supplier bs) (record_at m (supplier bs) (λ k. row_of (drop start bs) len k)) es year count)) room
      (subst (λ w. Judged m (supplier bs) (record_at m (supplier bs) (λ k. row_of (drop start bs) len k)) es w count room r) is-year
      (subst₃ (λ s row c. Judged m s (record_at m s row) es y c room r) of.supplier_is (rows_are bs start len rows of) is-count h))

  pub file_indexed : (P : N → N → Ordering) (ps : List (Place N)) → Index m rows.supplier (row_in rows) P ps → Index m (supplier bs) (λ k. row_of (drop start bs) len k) P ps
  file_indexed P ps h = subst₂ (λ s row. Index m s row P ps) of.supplier_is (rows_are bs start len rows of) h

  pub may_enter : (P : N → N → Ordering) (run : List (Entry N W)) (used y year count : ℕ) (ps : List (Place N)) → y ≡ year → length ps ≡ count →
      used ≤ length run → Ascending m.numbers (take used run) → Index m (supplier bs) (λ k. row_of (drop start bs) len k) P ps →
      SoundRows m (supplier bs) (λ k. row_of (drop start bs) len k) count →
      register_fault m (supplier bs) (record_at m (supplier bs) (λ k. row_of (drop start bs) len k)) (take used run) year count ≡ None →
      length (entries_after m (supplier bs) (record_at m (supplier bs) (λ k. row_of (drop start bs) len k)) (take used run) year count) ≤ length run →
      Enterable m rows.supplier (row_in rows) P run used y ps
  may_enter P run used y year count ps is-year is-count within up index sound none room =
      subst (λ w. Enterable m rows.supplier (row_in rows) P run used w ps) (sym is-year)
      (subst₂ (λ s row. Enterable m s row P run used year ps) (sym of.supplier_is) (sym (rows_are bs start len rows of))
      (record {
        within = within;
        ascending = up;
        index = index;
        single = λ j k l q. sound.single j k l (subst (λ w. k < w) is-count q);
        none = ap (register_fault m (supplier bs) (record_at m (supplier bs) (λ k. row_of (drop start bs) len k)) (take used run) year) is-count ∙ none;
        room = subst (λ w. length (entries_after m (supplier bs) (record_at m (supplier bs) (λ k. row_of (drop start bs) len k)) (take used run) year w) ≤ length run) (sym is-count) room;
      }))

  pub file_entered : (es after : List (Entry N W)) (y year n count : ℕ) → y ≡ year → n ≡ count → Entered m rows.supplier (record_at m rows.supplier (row_in rows)) es y n after →
      Entered m (supplier bs) (record_at m (supplier bs) (λ k. row_of (drop start bs) len k)) es year count after
  file_entered es after y year n count is-year is-count h =
      subst (λ w. Entered m (supplier bs) (record_at m (supplier bs) (λ k. row_of (drop start bs) len k)) es w count after) is-year
      (subst₃ (λ s row c. Entered m s (record_at m s row) es y c after) of.supplier_is (rows_are bs start len rows of) is-count h)

  -- a file that the register took, as the bytes have it
  pub file_done : (P : N → N → Ordering) (run after : List (Entry N W)) (used y year count : ℕ) (ps : List (Place N)) → y ≡ year → length ps ≡ count →
      used ≤ length run → Ascending m.numbers (take used run) → Index m (supplier bs) (λ k. row_of (drop start bs) len k) P ps →
      SoundRows m (supplier bs) (λ k. row_of (drop start bs) len k) count →
      register_fault m (supplier bs) (record_at m (supplier bs) (λ k. row_of (drop start bs) len k)) (take used run) year count ≡ None →
      length (entries_after m (supplier bs) (record_at m (supplier bs) (λ k. row_of (drop start bs) len k)) (take used run) year count) ≤ length run →
      (Enterable m rows.supplier (row_in rows) P run used y ps → Entered m rows.supplier (record_at m rows.supplier (row_in rows)) (take used run) y (length ps) after) →
      IsPermutation (entries_after m (supplier bs) (record_at m (supplier bs) (λ k. row_of (drop start bs) len k)) (take used run) year count) after
  file_done P run after used y year count ps is-year is-count within up index sound none room enters =
      (file_entered (take used run) after y year (length ps) count is-year is-count (enters (may_enter P run used y year count ps is-year is-count within up index sound none room))).shuffled

-- what no fault says of the line, the files and the runs
pub record Clear (line : Option LineFault) (g s p : Option RegisterFault) (a b c x y z : ℕ) : Type 0 where
  pub line_none : line ≡ None
  pub stations : g ≡ None
  pub series : s ≡ None
  pub tables : p ≡ None
  pub stations_fit : a ≤ x
  pub series_fit : b ≤ y
  pub tables_fit : c ≤ z

pub clear : (line : Option LineFault) (g s p : Option RegisterFault) (a b c x y z : ℕ) →
    first_of (on_line line) (judged g a x) (judged s b y) (judged p c z) ≡ None → Clear line g s p a b c x y z
clear (Some e) g s p a b c x y z h = absurd (some_none _ h)
clear None (Some e) s p a b c x y z h = absurd (some_none _ h)
clear None None (Some e) p a b c x y z h = absurd (some_none _ h)
clear None None None (Some e) a b c x y z h = absurd (some_none _ h)
clear None None None None a b c x y z h =
    let t = fits (leb a x) (leb b y) (leb c z) h in
    record { line_none = refl; stations = refl; series = refl; tables = refl; stations_fit = leb-true a x t.0; series_fit = leb-true b y t.1; tables_fit = leb-true c z t.2 }
  where
    fits : (g s p : Bool) → first_over g s p ≡ None → (g ≡ true) × (s ≡ true) × (p ≡ true)
    fits false s p h = absurd (some_none _ h)
    fits true false p h = absurd (some_none _ h)
    fits true true false h = absurd (some_none _ h)
    fits true true true h = (refl, refl, refl)

-- where there is no fault, each file was taken
pub all_taken : (r : Result (Unit {0}) BookFault) (line : Result (Unit {0}) LineFault) (g s p : Result Bool RegisterFault) → result_err r ≡ first_of line g s p → is_ok r ≡ true →
    (is_ok g ≡ true) × (is_ok s ≡ true) × (is_ok p ≡ true)
all_taken (Ok _) (Err e) g s p h ok = absurd (some_none _ (sym h))
all_taken (Ok _) (Ok _) (Err e) s p h ok = absurd (some_none _ (sym h))
all_taken (Ok _) (Ok _) (Ok g) (Err e) p h ok = absurd (some_none _ (sym h))
all_taken (Ok _) (Ok _) (Ok g) (Ok s) (Err e) h ok = absurd (some_none _ (sym h))
all_taken (Ok _) (Ok _) (Ok g) (Ok s) (Ok p) h ok = (refl, refl, refl)
all_taken (Err e) line g s p h ok = absurd (false≢true ok)
