-- The marks of a station say whether its told fields are equal.
use Rattle.std.proofs.Common.{◌≡◌, ap}
use Rattle.kinds.specs.declared.station.Station.{Station}
use Rattle.kinds.specs.declared.station.StationTold.{StationTold}
use Rattle.kinds.specs.Cover.{Unchanged}
use Rattle.kinds.specs.Station.{station_lines, station_marks}
use Rattle.kinds.specs.Taking.{same_number, same_text}
use Rattle.kinds.specs.Told.{number_same, text_same}

pub station_same : (t : StationTold) (r : Station) → Unchanged station_lines (station_marks t r) → t ≡ r.told
station_same t r h =
    λ i. record {
      name = same_text t.name r.told.name h.0 i;
      designation = same_text t.designation r.told.designation h.1.1.0 i;
      route_description = same_text t.route_description r.told.route_description h.1.1.1.1.0 i;
      zone = same_number t.zone r.told.zone h.1.1.1.1.1.1.0 i;
    }

pub same_station : (t : StationTold) (r : Station) → t ≡ r.told → Unchanged station_lines (station_marks t r)
same_station t r e = (
  text_same t.name r.told.name (ap (λ x. x.name) e),
  (
    tt,
    (
      text_same t.designation r.told.designation (ap (λ x. x.designation) e),
      (
        tt,
        (
          text_same t.route_description r.told.route_description (ap (λ x. x.route_description) e),
          (
            tt,
            (
              number_same t.zone r.told.zone (ap (λ x. x.zone) e),
              (tt, tt),
            ),
          ),
        ),
      ),
    ),
  ),
)
