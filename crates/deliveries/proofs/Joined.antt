-- A series has no fault beside its stations exactly where it joins them.
use Rattle.std.proofs.Common.{◌≡◌, ℕ, ◌<◌, Bool, true, false, cond, ◌&&◌, eqb, Some, None, Option, sym, refl, ap, ◌∙◌, MatchOption}
use Rattle.std.specs.Option.{option_map}
use Rattle.std.proofs.lemmas.Bool.{and_left, and_parts, eq-eqb, eqb-true, ne_eqb}
use Rattle.fields.specs.Flags.{stays}
use Rattle.kinds.specs.declared.series.End.{End}
use Rattle.kinds.specs.declared.series.Series.{Series}
use Rattle.kinds.specs.declared.station.Station.{Station}
use Rattle.kinds.specs.Taking.{same_text}
use Rattle.kinds.specs.Told.{text_same}
use Rattle.files.specs.First.{first, or_else}
use Rattle.files.proofs.Firsts.{first_says, first_some, some_none}
use Rattle.deliveries.specs.declared.fault.AcrossFault.{AcrossFault}
use Rattle.deliveries.specs.declared.fault.AcrossFault.TheVariants.{OtherDesignation}
use Rattle.deliveries.specs.Across.{Joins, end_fault, ends_fault, series_fault, stands, station_of}

pub or_none : {A : Type 0} (a b : Option A) → or_else a b ≡ None → (a ≡ None) × (b ≡ None)
or_none (Some x) b e = absurd (some_none x e)
or_none None b e = (refl, e)

module _ (station : ℕ → Station) (g : ℕ) where
  stood : (x y : Station) (t : Bool) → cond t (Some x) None ≡ Some y → (t ≡ true) × (x ≡ y)
  stood x y true e = (refl, cc)
  stood x y false e = absurd (some_none y (sym e))

  fits : (d : Bool) (e : AcrossFault) → cond d (Some e) None ≡ None → d ≡ false
  fits true e n = absurd (some_none e n)
  fits false e n = refl

  joins_when_none : (e : End) (a b n : ℕ) → end_fault e a b n (station_of station g e.station) ≡ None → Joins station g e
  joins_when_none e a b n none = go (first (stands station g e.station) g) (first_says (stands station g e.station) g) none
    where
      go : (o : Option (ℕ × Station)) →
          MatchOption o ((k : ℕ) → k < g → stands station g e.station k ≡ None) (λ p. (p.0 < g) × (stands station g e.station p.0 ≡ Some p.1) × ((j : ℕ) → j < p.0 → stands station g e.station j ≡ None)) →
          end_fault e a b n (option_map (λ p. p.1) o) ≡ None → Joins station g e
      go None q f = absurd (some_none _ f)
      go (Some p) q f =
          let s = stood (station p.0) p.1 _ q.1 in
          let both = and_parts (eqb (station p.0).number e.station) (stays (station p.0).key_flag) s.0 in
          record {
            at = p.0;
            there = q.0;
            code = eqb-true _ _ both.0;
            staying = both.1;
            designation = same_text e.designation _ (fits _ _ f) ∙ ap (λ x. x.told.designation) (sym s.1);
          }

  none_when_joins : (e : End) (a b n : ℕ) → ((j k : ℕ) → j < k → k < g → (station j).number ≡ (station k).number → ⊥) → Joins station g e →
      end_fault e a b n (station_of station g e.station) ≡ None
  none_when_joins e a b n single j =
      let k = j.at in
      let found : first (stands station g e.station) g ≡ Some (k, station k) =
      first_some (stands station g e.station) g k (station k) j.there
      (λ i. cond (eq-eqb (station k).number e.station j.code i && j.staying i) (Some (station k)) None)
      (λ l below. ap (λ t. cond t (Some (station l)) None)
      (and_left (eqb (station l).number e.station) _ (ne_eqb (station l).number e.station (λ same. single l k below j.there (same ∙ sym j.code))))) in
      ap (λ o. end_fault e a b n (option_map (λ p. p.1) o)) found
      ∙ ap (λ t. cond t (Some (OtherDesignation b n)) None) (text_same e.designation (station k).told.designation j.designation)

  pub ends_when_none : (r : Series) → series_fault station g r ≡ None → stays r.key_flag ≡ true → Joins station g r.told.departure × Joins station g r.told.destination
  ends_when_none r none stay =
      let both = or_none _ _ (ap (λ t. cond t (ends_fault station g r) None) (sym stay) ∙ none) in
      (joins_when_none r.told.departure 6 8 r.number both.0, joins_when_none r.told.destination 10 12 r.number both.1)

  pub none_when_ends : (r : Series) → ((j k : ℕ) → j < k → k < g → (station j).number ≡ (station k).number → ⊥) →
      (stays r.key_flag ≡ true → Joins station g r.told.departure) → (stays r.key_flag ≡ true → Joins station g r.told.destination) →
      series_fault station g r ≡ None
  none_when_ends r single departs arrives = go (stays r.key_flag) departs arrives
    where
      go : (t : Bool) → (t ≡ true → Joins station g r.told.departure) → (t ≡ true → Joins station g r.told.destination) → cond t (ends_fault station g r) None ≡ None
      go false d a = refl
      go true d a =
          λ i. or_else (none_when_joins r.told.departure 6 8 r.number single (d refl) i)
          (none_when_joins r.told.destination 10 12 r.number single (a refl) i)
