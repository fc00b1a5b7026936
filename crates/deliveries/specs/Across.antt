-- The series of a delivery beside its stations.
use Rattle.std.specs.Prelude.{◌≡◌, ℕ, ◌<◌, true, cond, ◌&&◌, Some, None, Option, ◌==◌}
use Rattle.std.specs.Option.{option_map}
use Rattle.fields.specs.Flags.{stays}
use Rattle.kinds.specs.declared.series.End.{End}
use Rattle.kinds.specs.declared.series.Series.{Series}
use Rattle.kinds.specs.declared.station.Station.{Station}
use Rattle.kinds.specs.Values.{texts_differ}
use Rattle.files.specs.First.{first, or_else}
use Rattle.deliveries.specs.declared.fault.AcrossFault.{AcrossFault}
use Rattle.deliveries.specs.declared.fault.AcrossFault.TheVariants.{NoStation, OtherDesignation}

-- the fault of an end whose station is this one: 9 at the field of the code, then 10 at the field of the designation
abbrev pub end_fault : End → ℕ → ℕ → ℕ → Option Station → Option AcrossFault
end_fault e code-field name-field n None = Some (NoStation code-field n)
end_fault e code-field name-field n (Some g) =
    cond (texts_differ e.designation g.told.designation) (Some (OtherDesignation name-field n)) None

-- station k is one of g stations
module _ (station : ℕ → Station) (g : ℕ) where
  abbrev pub stands : ℕ → ℕ → Option Station
  stands code k = cond ((station k).number == code && stays (station k).key_flag) (Some (station k)) None

  -- the station with this code that stays
  abbrev pub station_of : ℕ → Option Station
  station_of code = option_map (λ p. p.1) (first (stands code) g)

  abbrev pub ends_fault : Series → Option AcrossFault
  ends_fault r =
      or_else (end_fault r.told.departure 6 8 r.number (station_of r.told.departure.station))
      (end_fault r.told.destination 10 12 r.number (station_of r.told.destination.station))

  -- a deleted series is not looked at
  abbrev pub series_fault : Series → Option AcrossFault
  series_fault r = cond (stays r.key_flag) (ends_fault r) None

  -- a station with the end's code stays, and the end bears its designation
  pub record Joins (e : End) : Type 0 where
    pub at : ℕ
    pub there : at < g
    pub code : (station at).number ≡ e.station
    pub staying : stays (station at).key_flag ≡ true
    pub designation : e.designation ≡ (station at).told.designation
