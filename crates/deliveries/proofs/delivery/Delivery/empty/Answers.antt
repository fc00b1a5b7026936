use Rattle.std.proofs.Common.{is_some, refl, ap}
use Rattle.fields.specs.Bytes.{columns, value}
use Rattle.deliveries.proofs.Emptied.{day_in, day_is, is_day, no_fault}
use Rattle.deliveries.proofs.delivery.Delivery.empty.Goals as goal

pub unwrap-requires : goal.unwrap-requires
unwrap-requires c = is_day c.new.result c.new.ensures

pub invariant_of-result : goal.invariant_of-result
unfolding columns value
invariant_of-result c =
    let d = day_is c.new.result c.unwrap.result c.new.ensures c.unwrap.ensures in
    record {
      sound = ap is_some no_fault;
      bears = ∣ record { stations = refl; series = refl; tables = refl; supplier = refl; first_day = day_in c.unwrap.result d; version = refl } ∣₁;
    }

pub returns : goal.returns
returns c =
    let d = day_is c.new.result c.unwrap.result c.new.ensures c.unwrap.ensures in
    record { stations = refl; series = refl; tables = refl; supplier = refl; year = ap (λ t. t.0) d; month = ap (λ t. t.1) d; day = ap (λ t. t.2) d; version = refl }
