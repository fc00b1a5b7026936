-- The first fault of a delivery by those of its parts.
use Rattle.std.proofs.Common.{◌≡◌, ℕ, true, false, List, is_some, Some, None, Decides, Option, sym, refl, ap, ◌∙◌}
use Rattle.std.proofs.lemmas.Bool.{false≢true}
use Rattle.kinds.specs.FareTable.{fare_table_meaning}
use Rattle.kinds.specs.Series.{series_meaning}
use Rattle.kinds.specs.Station.{station_meaning}
use Rattle.files.specs.declared.fault.RowFault.{RowFault}
use Rattle.files.specs.Files.{file_fault}
use Rattle.files.specs.First.{or_else}
use Rattle.files.proofs.Firsts.{first_none, none_first, some_none}
use Rattle.files.proofs.Soundness.{none_when_sound, sound_when_none}
use Rattle.deliveries.specs.declared.fault.AcrossFault.{AcrossFault}
use Rattle.deliveries.specs.declared.fault.DeliveryFault.{DeliveryFault}
use Rattle.deliveries.specs.declared.fault.DeliveryFault.TheVariants as fault
use Rattle.deliveries.specs.declared.fault.HeadFault.{HeadFault}
use Rattle.deliveries.specs.Across.{series_fault}
use Rattle.deliveries.specs.Delivery.{Sound, at_head, beside, delivery_fault, in_file, rows_fault, series, series_count, series_row, station, station_count, station_row, supplier, table_count, table_row}
use Rattle.deliveries.specs.Head.{head_fault}
use Rattle.deliveries.proofs.Heads.{kept_when_none, none_when_kept}
use Rattle.deliveries.proofs.Joined.{ends_when_none, none_when_ends, or_none}
use Rattle.deliveries.proofs.Parts.{first_of_rows}

pub broken_head : (bs : List ℕ) (e : HeadFault) → head_fault bs ≡ Some e → delivery_fault bs ≡ Some (fault.Head e)
unfolding delivery_fault
broken_head bs e h = ap (λ o. or_else (at_head o) (rows_fault bs)) h

pub kept_head : (bs : List ℕ) (o : Option DeliveryFault) → head_fault bs ≡ None → o ≡ rows_fault bs → delivery_fault bs ≡ o
unfolding delivery_fault
kept_head bs o h r = ap (λ x. or_else (at_head x) (rows_fault bs)) h ∙ sym r

no_head_fault : (o : Option HeadFault) → at_head o ≡ None → o ≡ None
no_head_fault None e = refl
no_head_fault (Some x) e = absurd (some_none _ e)

no_row_fault : (letter : ℕ) (o : Option (ℕ × RowFault)) → in_file letter o ≡ None → o ≡ None
no_row_fault letter None e = refl
no_row_fault letter (Some x) e = absurd (some_none _ e)

none_beside : (o : Option (ℕ × AcrossFault)) → beside o ≡ None → o ≡ None
none_beside None e = refl
none_beside (Some x) e = absurd (some_none _ e)

-- a delivery has no fault exactly where it keeps every rule
pub sound_delivery : (bs : List ℕ) → delivery_fault bs ≡ None → Sound bs
unfolding delivery_fault rows_fault
sound_delivery bs none =
    let h = or_none (at_head (head_fault bs)) _ none in
    let g = or_none (in_file 71 (file_fault station_meaning (supplier bs) (station_row bs) (station_count bs))) _ h.1 in
    let s = or_none (in_file 83 (file_fault series_meaning (supplier bs) (series_row bs) (series_count bs))) _ g.1 in
    let p = or_none (in_file 80 (file_fault fare_table_meaning (supplier bs) (table_row bs) (table_count bs))) _ s.1 in
    let each = none_first (λ k. series_fault (station bs) (station_count bs) (series bs k)) (series_count bs) (none_beside _ p.1) in
    record {
      head = kept_when_none bs (no_head_fault _ h.0);
      stations = sound_when_none station_meaning (supplier bs) (station_row bs) (station_count bs) (no_row_fault 71 _ g.0);
      all_series = sound_when_none series_meaning (supplier bs) (series_row bs) (series_count bs) (no_row_fault 83 _ s.0);
      tables = sound_when_none fare_table_meaning (supplier bs) (table_row bs) (table_count bs) (no_row_fault 80 _ p.0);
      departs = λ k l stay. (ends_when_none (station bs) (station_count bs) (series bs k) (each k l) stay).0;
      arrives = λ k l stay. (ends_when_none (station bs) (station_count bs) (series bs k) (each k l) stay).1;
    }

pub no_fault : (bs : List ℕ) → Sound bs → delivery_fault bs ≡ None
no_fault bs w =
    let g = none_when_sound station_meaning (supplier bs) (station_row bs) (station_count bs) w.stations in
    let s = none_when_sound series_meaning (supplier bs) (series_row bs) (series_count bs) w.all_series in
    let p = none_when_sound fare_table_meaning (supplier bs) (table_row bs) (table_count bs) w.tables in
    let each = first_none (λ k. series_fault (station bs) (station_count bs) (series bs k)) (series_count bs)
    (λ k l. none_when_ends (station bs) (station_count bs) (series bs k) w.stations.single (w.departs k l) (w.arrives k l)) in
    kept_head bs None (none_when_kept bs w.head)
    (first_of_rows bs None None None None (ap (in_file 71) (sym g)) (ap (in_file 83) (sym s)) (ap (in_file 80) (sym p)) (ap beside (sym each)))

pub taken : (bs : List ℕ) → delivery_fault bs ≡ None → Decides true (Sound bs)
taken bs none = (λ _. sound_delivery bs none, λ _. refl)

pub refused : (bs : List ℕ) (e : DeliveryFault) → delivery_fault bs ≡ Some e → Decides false (Sound bs)
refused bs e fault = (λ x. absurd (false≢true x), λ w. absurd (some_none e (sym fault ∙ no_fault bs w)))

no_some : {A : Type 0} (o : Option A) → is_some o ≡ false → o ≡ None
no_some None e = refl
no_some (Some x) e = absurd (false≢true (sym e))

pub sound_when_read : (bs : List ℕ) → is_some (delivery_fault bs) ≡ false → Sound bs
sound_when_read bs e = sound_delivery bs (no_some (delivery_fault bs) e)
