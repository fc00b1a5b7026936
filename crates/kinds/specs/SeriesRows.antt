-- The marks of a series say whether its told fields are equal.
use Rattle.std.proofs.Common.{◌≡◌, ap}
use Rattle.kinds.specs.declared.series.Series.{Series}
use Rattle.kinds.specs.declared.series.SeriesTold.{SeriesTold}
use Rattle.kinds.specs.Cover.{Unchanged}
use Rattle.kinds.specs.Series.{same_type, series_lines, series_marks, type_number}
use Rattle.kinds.specs.Taking.{same_number, same_sign, same_text}
use Rattle.kinds.specs.Told.{number_same, sign_same, text_same}

pub series_same : (t : SeriesTold) (r : Series) → Unchanged series_lines (series_marks t r) → t ≡ r.told
series_same t r h =
    let from = h.1.1 in
    let to = from.1.1.1.1 in
    let way = to.1.1.1.1 in
    let signs = way.1.1.1.1.1 in
    λ i. record {
      series_type = same_type t.series_type r.told.series_type (same_number _ _ h.0) i;
      departure = record {
        station = same_number t.departure.station r.told.departure.station from.0 i;
        connection = same_number t.departure.connection r.told.departure.connection from.1.0 i;
        designation = same_text t.departure.designation r.told.departure.designation from.1.1.0 i;
      };
      destination = record {
        station = same_number t.destination.station r.told.destination.station to.0 i;
        connection = same_number t.destination.connection r.told.destination.connection to.1.0 i;
        designation = same_text t.destination.designation r.told.destination.designation to.1.1.0 i;
      };
      route_number = same_number t.route_number r.told.route_number way.0 i;
      product = same_number t.product r.told.product way.1.0 i;
      offer = same_number t.offer r.told.offer way.1.1.0 i;
      usual = same_sign t.usual r.told.usual way.1.1.1.0 i;
      bus = same_sign t.bus r.told.bus signs.0 i;
      ferry = same_sign t.ferry r.told.ferry signs.1.1.0 i;
    }

pub same_series : (t : SeriesTold) (r : Series) → t ≡ r.told → Unchanged series_lines (series_marks t r)
same_series t r e = (
  number_same _ _ (ap (λ x. type_number x.series_type) e),
  (
    tt,
    (
      number_same _ _ (ap (λ x. x.departure.station) e),
      (
        number_same _ _ (ap (λ x. x.departure.connection) e),
        (
          text_same _ _ (ap (λ x. x.departure.designation) e),
          (
            tt,
            (
              number_same _ _ (ap (λ x. x.destination.station) e),
              (
                number_same _ _ (ap (λ x. x.destination.connection) e),
                (
                  text_same _ _ (ap (λ x. x.destination.designation) e),
                  (
                    tt,
                    (
                      number_same _ _ (ap (λ x. x.route_number) e),
                      (
                        number_same _ _ (ap (λ x. x.product) e),
                        (
                          number_same _ _ (ap (λ x. x.offer) e),
                          (
                            sign_same _ _ (ap (λ x. x.usual) e),
                            (
                              tt,
                              (
                                sign_same _ _ (ap (λ x. x.bus) e),
                                (
                                  tt,
                                  (
                                    sign_same _ _ (ap (λ x. x.ferry) e),
                                    (tt, tt),
                                  ),
                                ),
                              ),
                            ),
                          ),
                        ),
                      ),
                    ),
                  ),
                ),
              ),
            ),
          ),
        ),
      ),
    ),
  ),
)
