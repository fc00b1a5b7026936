-- What a head bears comes out of a truncation again: each of its equations has one proof at most.
use Rattle.std.proofs.Common.{ℕ, List}
use Rattle.std.proofs.Props.{props}
use mathlib.Core.Logic.{∥∥₁_elim}
use Rattle.deliveries.specs.declared.head.Head.{Head}
use Rattle.deliveries.specs.Head.{Bears}

pub bears : (bs : List ℕ) (h : Head) → ∥ Bears bs h ∥₁ → Bears bs h
bears bs h b = record {
  stations = ∥∥₁_elim b (Prim.hlevel props) (λ x. x.stations);
  series = ∥∥₁_elim b (Prim.hlevel props) (λ x. x.series);
  tables = ∥∥₁_elim b (Prim.hlevel props) (λ x. x.tables);
  supplier = ∥∥₁_elim b (Prim.hlevel props) (λ x. x.supplier);
  first_day = ∥∥₁_elim b (Prim.hlevel props) (λ x. x.first_day);
  version = ∥∥₁_elim b (Prim.hlevel props) (λ x. x.version);
}
