-- The first fault of a head step by step, and what its kept rules say of counts and lengths.
use Rattle.std.proofs.Common.{◌≡◌, ℕ, ◌+◌, ◌*◌, ◌<◌, ◌≤◌, Bool, true, false, cond, ◌&&◌, eqb, ltb, List, length, is_some, is_ok, Some, None, Ok, Err, Decides, Result, sym, refl, ap, ◌∙◌, mul-le-mul, arith}
use Rattle.std.proofs.lemmas.Bool.{and_from, and_parts, eq-eqb, eqb-true, false≢true, le-ltb, lt-ltb, ltb-false}
use Rattle.fields.specs.declared.fault.FieldFault.{FieldFault}
use Rattle.fields.specs.Bytes.{columns, value}
use Rattle.fields.specs.Calendar.{date}
use Rattle.fields.specs.Faults.{field_of}
use Rattle.fields.specs.Rules.{checked}
use Rattle.fields.proofs.FirstFault.{checked_sound, kept_between, kept_tests}
use Rattle.deliveries.specs.declared.fault.HeadFault.{HeadFault}
use Rattle.deliveries.specs.declared.fault.HeadFault.TheVariants.{Short, BrokenField, WrongSize}
use Rattle.deliveries.specs.declared.head.Extent.{Extent}
use Rattle.files.proofs.Firsts.{some_none}
use Rattle.deliveries.specs.declared.head.Head.{Head}
use Rattle.deliveries.specs.Head.{Bears, Kept, Whole, after_fields, all_rows, bytes_in, head_fault, head_table, no_context, right_size}

pub when_short : (bs : List ℕ) → length bs < 47 → head_fault bs ≡ Some Short
unfolding head_fault
when_short bs h = rw (lt-ltb (length bs) 47 h)

pub when_long : (bs : List ℕ) → 47 ≤ length bs → head_fault bs ≡ after_fields bs (checked no_context bs head_table)
unfolding head_fault
when_long bs h = rw (le-ltb (length bs) 47 h)

pub when_broken : (bs : List ℕ) (e : FieldFault) → 47 ≤ length bs → Err e ≡ checked no_context bs head_table → head_fault bs ≡ Some (BrokenField (field_of e))
when_broken bs e h p = when_long bs h ∙ ap (after_fields bs) (sym p)

pub when_kept : (bs : List ℕ) → 47 ≤ length bs → Ok tt ≡ checked no_context bs head_table → head_fault bs ≡ after_fields bs (Ok tt)
when_kept bs h p = when_long bs h ∙ ap (after_fields bs) (sym p)

pub record Limits (bs : List ℕ) : Type 0 where
  pub station_rows : value (columns 10 14 bs) ≤ 4096
  pub series_rows : value (columns 15 19 bs) ≤ 4096
  pub table_rows : value (columns 20 24 bs) ≤ 4096
  pub station_length : (92 ≤ value (columns 25 27 bs)) × (value (columns 25 27 bs) ≤ 512)
  pub series_length : (73 ≤ value (columns 28 30 bs)) × (value (columns 28 30 bs) ≤ 512)
  pub table_length : (207 ≤ value (columns 31 33 bs)) × (value (columns 31 33 bs) ≤ 207)
  pub first_day : is_some (date (columns 38 45 bs)) ≡ true

pub limits : (bs : List ℕ) → Ok tt ≡ checked no_context bs head_table → Limits bs
limits bs p =
    let sound = (checked_sound no_context bs head_table).0 (sym (ap is_ok p)) in
    record {
      station_rows = (kept_between no_context bs 3 10 14 _ _ 0 4096 sound.1.1.0).1;
      series_rows = (kept_between no_context bs 4 15 19 _ _ 0 4096 sound.1.1.1.0).1;
      table_rows = (kept_between no_context bs 5 20 24 _ _ 0 4096 sound.1.1.1.1.0).1;
      station_length = kept_between no_context bs 6 25 27 _ _ 92 512 sound.1.1.1.1.1.0;
      series_length = kept_between no_context bs 7 28 30 _ _ 73 512 sound.1.1.1.1.1.1.0;
      table_length = kept_between no_context bs 8 31 33 _ _ 207 207 sound.1.1.1.1.1.1.1.0;
      first_day = (kept_tests no_context bs _ sound.1.1.1.1.1.1.1.1.1.0).1;
    }

-- the first day of a head that keeps its rules is there
pub no_day : (bs day : List ℕ) → Ok tt ≡ checked no_context bs head_table → day ≡ columns 38 45 bs → None ≡ date day → ⊥
no_day bs day kept part none =
    false≢true (ap is_some (none ∙ ap date part) ∙ (limits bs kept).first_day)

rows_bound : (e f : Extent) → e ≡ f → f.rows ≤ 4096 → f.length ≤ 512 → bytes_in e ≤ 4096 * 512
rows_bound e f same r l = rw same (mul-le-mul r l)

-- the files of a head whose fields keep their rules are small
pub small : (bs : List ℕ) (h : Head) → Whole bs h →
    (bytes_in h.stations ≤ 4096 * 512) × (bytes_in h.series ≤ 4096 * 512) × (bytes_in h.tables ≤ 4096 * 512)
small bs h w =
    let l = limits bs w.kept in (
      rows_bound h.stations _ w.bears.stations l.station_rows l.station_length.1,
      rows_bound h.series _ w.bears.series l.series_rows l.series_length.1,
      rows_bound h.tables _ w.bears.tables l.table_rows (omega (arith, l.table_length.1)),
    )

-- with all fields kept, the size alone decides: a, b and c are the bytes of the three files, and r the test of their sum
pub by_size : (bs : List ℕ) (h : Head) → Whole bs h → (a b c : ℕ) → a ≡ bytes_in h.stations → b ≡ bytes_in h.series → c ≡ bytes_in h.tables →
    (r : Bool) → r ≡ (eqb (value (columns 2 9 bs)) (a + b + c) && eqb (length bs) (47 + (a + b + c))) → head_fault bs ≡ cond r None (Some WrongSize)
by_size bs h w a b c ea eb ec r e =
    let sum : a + b + c ≡ all_rows bs = rw (ea, eb, ec, w.bears.stations, w.bears.series, w.bears.tables) in
    let sized : r ≡ right_size bs = e ∙ rw sum in
    when_kept bs w.long w.kept ∙ ap (λ t. cond t None (Some WrongSize)) (sym sized)

-- a head has no fault exactly where it keeps its rules
pub kept_when_none : (bs : List ℕ) → head_fault bs ≡ None → Kept bs
unfolding head_fault
kept_when_none bs none = go (ltb (length bs) 47) refl (checked no_context bs head_table) refl none
  where
    sized : (s : Bool) → right_size bs ≡ s → cond s None (Some WrongSize) ≡ None → right_size bs ≡ true
    sized true e n = e
    sized false e n = absurd (some_none WrongSize n)

    go : (b : Bool) → ltb (length bs) 47 ≡ b → (r : Result (Unit {0}) FieldFault) → checked no_context bs head_table ≡ r → cond b (Some Short) (after_fields bs r) ≡ None → Kept bs
    go true e r f n = absurd (some_none Short n)
    go false e (Err x) f n = absurd (some_none _ n)
    go false e (Ok u) f n =
        let both = and_parts (eqb (value (columns 2 9 bs)) (all_rows bs)) (eqb (length bs) (47 + all_rows bs)) (sized (right_size bs) refl n) in
        record {
          long = ltb-false (length bs) 47 e;
          fields = (checked_sound no_context bs head_table).0 (ap is_ok f);
          told_size = eqb-true _ _ both.0;
          true_size = eqb-true _ _ both.1;
        }

pub none_when_kept : (bs : List ℕ) → Kept bs → head_fault bs ≡ None
none_when_kept bs k =
    when_long bs k.long ∙ go (checked no_context bs head_table) ((checked_sound no_context bs head_table).1 k.fields)
  where
    sized : right_size bs ≡ true
    sized = and_from _ _ (eq-eqb _ _ k.told_size) (eq-eqb _ _ k.true_size)

    go : (r : Result (Unit {0}) FieldFault) → is_ok r ≡ true → after_fields bs r ≡ None
    go (Ok u) e = ap (λ t. cond t None (Some WrongSize)) sized
    go (Err x) e = absurd (false≢true e)

pub taken : (bs : List ℕ) → head_fault bs ≡ None → Decides true (Kept bs)
taken bs none = (λ _. kept_when_none bs none, λ _. refl)

pub refused : (bs : List ℕ) (e : HeadFault) → head_fault bs ≡ Some e → Decides false (Kept bs)
refused bs e fault = (λ x. absurd (false≢true x), λ k. absurd (some_none e (sym fault ∙ none_when_kept bs k)))

-- what a kept head bears
pub whole : (bs : List ℕ) (h : Head) → Kept bs → Bears bs h → Whole bs h
whole bs h k b = record { long = k.long; kept = go (checked no_context bs head_table) ((checked_sound no_context bs head_table).1 k.fields); bears = b }
  where
    go : (r : Result (Unit {0}) FieldFault) → is_ok r ≡ true → Ok tt ≡ r
    go (Ok u) e = refl
    go (Err x) e = absurd (false≢true e)
