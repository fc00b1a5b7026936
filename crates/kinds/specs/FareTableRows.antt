-- The marks of a fare table say whether its told fields are equal.
use Rattle.std.proofs.Common.{◌≡◌, ap}
use Rattle.kinds.specs.declared.fare_table.FareTable.{FareTable}
use Rattle.kinds.specs.declared.fare_table.FareTableTold.{FareTableTold}
use Rattle.kinds.specs.Cover.{Unchanged}
use Rattle.kinds.specs.FareTable.{fare_table_lines, fare_table_marks, same_table_type, table_type_number}
use Rattle.kinds.specs.Taking.{same_number, same_sign, same_text}
use Rattle.kinds.specs.Told.{number_same, sign_same, text_same}

pub fare_table_same : (t : FareTableTold) (r : FareTable) → Unchanged fare_table_lines (fare_table_marks t r) → t ≡ r.told
fare_table_same t r h =
    λ i. record {
      table_type = same_table_type t.table_type r.told.table_type (same_number _ _ h.0) i;
      official = same_text t.official r.told.official h.1.0 i;
      french = same_text t.french r.told.french h.1.1.0 i;
      german = same_text t.german r.told.german h.1.1.1.0 i;
      english = same_text t.english r.told.english h.1.1.1.1.0 i;
      currency = same_text t.currency r.told.currency h.1.1.1.1.1.1.0 i;
      return_is_double = same_sign t.return_is_double r.told.return_is_double h.1.1.1.1.1.1.1.1.0 i;
    }

pub same_fare_table : (t : FareTableTold) (r : FareTable) → t ≡ r.told → Unchanged fare_table_lines (fare_table_marks t r)
same_fare_table t r e = (
  number_same _ _ (ap (λ x. table_type_number x.table_type) e),
  (
    text_same _ _ (ap (λ x. x.official) e),
    (
      text_same _ _ (ap (λ x. x.french) e),
      (
        text_same _ _ (ap (λ x. x.german) e),
        (
          text_same _ _ (ap (λ x. x.english) e),
          (
            tt,
            (
              text_same _ _ (ap (λ x. x.currency) e),
              (
                tt,
                (
                  sign_same _ _ (ap (λ x. x.return_is_double) e),
                  (tt, tt),
                ),
              ),
            ),
          ),
        ),
      ),
    ),
  ),
)
