-- Two types are the same exactly where their numbers are, and two signs differ where they are not the same.
use Rattle.std.proofs.Common.{◌≡◌, Bool, true, false, not, ◌==◌, refl}
use mathlib.Core.Bool.{beq}
use denote.Enum.Bare.{sameb}
use Rattle.kinds.specs.contracts.series.SeriesType as contract
use Rattle.kinds.specs.declared.series.SeriesType.{SeriesType}
use Rattle.kinds.specs.declared.series.SeriesType.TheVariants.{Transit, Border, Stations}
use Rattle.kinds.specs.Series.{type_number}
use Rattle.kinds.specs.Values.{signs_differ}

pub same_series_type : (a b : SeriesType) → sameb contract.the_type a b ≡ (type_number a == type_number b)
same_series_type Transit Transit = refl
same_series_type Transit Border = refl
same_series_type Transit Stations = refl
same_series_type Border Transit = refl
same_series_type Border Border = refl
same_series_type Border Stations = refl
same_series_type Stations Transit = refl
same_series_type Stations Border = refl
same_series_type Stations Stations = refl

pub differing_signs : (a b : Bool) → not (beq a b) ≡ signs_differ a b
differing_signs true true = refl
differing_signs true false = refl
differing_signs false true = refl
differing_signs false false = refl
