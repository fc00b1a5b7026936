-- Fare table descriptions: their columns, their cover, and what they mean.
use Rattle.std.specs.Prelude.{◌≡◌, ℕ, Bool, false, cond, List, [], ◌∷◌, ◌==◌, refl}
use Rattle.std.specs.Cmp.{nat_cmp_total}
use Rattle.fields.specs.declared.rule.Content.TheVariants.{Any, Between, ZeroOrFrom, Amendment, Capitals, Supplier, FileName}
use Rattle.fields.specs.declared.rule.Context.{Context}
use Rattle.fields.specs.declared.rule.Field.{Field}
use Rattle.fields.specs.declared.rule.FieldType.TheVariants.{Alphanumeric, Numeric}
use Rattle.fields.specs.declared.rule.Need.TheVariants.{Mandatory, Optional}
use Rattle.fields.specs.Bytes.{columns}
use Rattle.fields.specs.Flags.{key_flag}
use Rattle.fields.specs.Rules.{field}
use Rattle.kinds.specs.declared.cover.Cover.TheVariants.{By, Flag, Steady}
use Rattle.kinds.specs.declared.cover.Line.{Line}
use Rattle.kinds.specs.declared.fare_table.FareTable.{FareTable}
use Rattle.kinds.specs.declared.fare_table.FareTableFlags.{FareTableFlags}
use Rattle.kinds.specs.declared.fare_table.FareTableTold.{FareTableTold}
use Rattle.kinds.specs.declared.fare_table.TableType.{TableType}
use Rattle.kinds.specs.declared.fare_table.TableType.TheVariants.{Distance, Route, SetFare}
use Rattle.kinds.specs.Cover.{TrueFlags, differs_under, line}
use Rattle.kinds.specs.Meaning.{Meaning}
use Rattle.kinds.specs.Orders.{apart_numbers, order_of}
use Rattle.kinds.specs.Taking.{Spared, same_number, spares, takes_sign, takes_text}
use Rattle.kinds.specs.Values.{flag_in, number_in, numbers_differ, signs_differ, taken, text_in, texts_differ}

abbrev pub fare_table_table : List Field
fare_table_table =
    field 1 1 4 Numeric Mandatory Supplier
    ∷ (field 2 5 8 Numeric Mandatory (Between 1000 9999)
    ∷ (field 3 9 9 Numeric Mandatory (Between 0 2)
    ∷ (field 4 10 10 Numeric Mandatory (Between 1 3)
    ∷ (field 5 11 40 Alphanumeric Mandatory Any
    ∷ (field 6 41 70 Alphanumeric Optional Any
    ∷ (field 7 71 100 Alphanumeric Optional Any
    ∷ (field 8 101 130 Alphanumeric Optional Any
    ∷ (field 10 161 161 Numeric Mandatory Amendment
    ∷ (field 11 162 164 Alphanumeric Mandatory Capitals
    ∷ (field 12 165 165 Numeric Mandatory Amendment
    ∷ (field 14 168 168 Numeric Mandatory (Between 0 1)
    ∷ (field 15 169 169 Numeric Mandatory Amendment
    ∷ (field 20 178 185 Alphanumeric Mandatory FileName
    ∷ (field 21 186 189 Numeric Optional (ZeroOrFrom 1000)
    ∷ []))))))))))))))

abbrev pub fare_table_lines : List Line
fare_table_lines =
    line 4 Steady
    ∷ (line 5 (By 10)
    ∷ (line 6 (By 10)
    ∷ (line 7 (By 10)
    ∷ (line 8 (By 10)
    ∷ (line 10 Flag
    ∷ (line 11 (By 12)
    ∷ (line 12 Flag
    ∷ (line 14 (By 15)
    ∷ (line 15 Flag
    ∷ [])))))))))

-- 1, 2 or 3
abbrev pub table_type_of : ℕ → TableType
table_type_of n = cond (n == 1) Distance (cond (n == 2) Route SetFare)

abbrev pub table_type_number : TableType → ℕ
table_type_number Distance = 1
table_type_number Route = 2
table_type_number SetFare = 3

abbrev pub fare_table_told : List ℕ → FareTableTold
fare_table_told row =
    record {
      table_type = table_type_of (number_in 10 10 row);
      official = text_in 30 11 40 row;
      french = text_in 30 41 70 row;
      german = text_in 30 71 100 row;
      english = text_in 30 101 130 row;
      currency = text_in 3 162 164 row;
      return_is_double = (number_in 168 168 row == 1);
    }

abbrev pub fare_table_flags : List ℕ → FareTableFlags
fare_table_flags row =
    record { descriptions = flag_in 161 row; currency = flag_in 165 row; return_is_double = flag_in 169 row }

abbrev pub fare_table_in : ℕ → List ℕ → FareTable
fare_table_in s row =
    record {
      supplier = s;
      number = number_in 5 8 row;
      key_flag = key_flag (columns 9 9 row);
      told = fare_table_told row;
      amended = fare_table_flags row;
      replaces = number_in 186 189 row;
    }

-- what the rules of a fare table's row refer to
abbrev pub fare_table_context : ℕ → List ℕ → Context
fare_table_context s row = record { supplier = s; number = number_in 5 8 row; key_flag = key_flag (columns 9 9 row) }

abbrev pub table_types_differ : TableType → TableType → Bool
table_types_differ a b = numbers_differ (table_type_number a) (table_type_number b)

abbrev pub fare_table_marks : FareTableTold → FareTable → List Bool
fare_table_marks t r =
    table_types_differ t.table_type r.told.table_type
    ∷ (texts_differ t.official r.told.official
    ∷ (texts_differ t.french r.told.french
    ∷ (texts_differ t.german r.told.german
    ∷ (texts_differ t.english r.told.english
    ∷ (r.amended.descriptions
    ∷ (texts_differ t.currency r.told.currency
    ∷ (r.amended.currency
    ∷ (signs_differ t.return_is_double r.told.return_is_double
    ∷ (r.amended.return_is_double
    ∷ [])))))))))

abbrev pub fare_table_takes : FareTableTold → FareTable → FareTableTold
fare_table_takes t r =
    record {
      table_type = t.table_type;
      official = taken r.amended.descriptions r.told.official t.official;
      french = taken r.amended.descriptions r.told.french t.french;
      german = taken r.amended.descriptions r.told.german t.german;
      english = taken r.amended.descriptions r.told.english t.english;
      currency = taken r.amended.currency r.told.currency t.currency;
      return_is_double = taken r.amended.return_is_double r.told.return_is_double t.return_is_double;
    }

pub same_table_type : (a b : TableType) → table_type_number a ≡ table_type_number b → a ≡ b
same_table_type Distance Distance e = refl
same_table_type Distance Route e = cc
same_table_type Distance SetFare e = cc
same_table_type Route Distance e = cc
same_table_type Route Route e = refl
same_table_type Route SetFare e = cc
same_table_type SetFare Distance e = cc
same_table_type SetFare Route e = cc
same_table_type SetFare SetFare e = refl

-- law 1
pub fare_table_takes_all : (t : FareTableTold) (r : FareTable) → TrueFlags fare_table_lines (fare_table_marks t r) → fare_table_takes t r ≡ r.told
fare_table_takes_all t r h =
    let descriptions-flag = by 10 _ h.1.1.1.1.1.0 in
    let currency-flag = by 12 _ h.1.1.1.1.1.1.1.0 in
    let double-flag = by 15 _ h.1.1.1.1.1.1.1.1.1.0 in
    λ i. record {
      table_type = same_table_type t.table_type r.told.table_type (same_number _ _ h.0) i;
      official = takes_text r.amended.descriptions r.told.official t.official (λ z. (descriptions-flag z).1.0 refl) i;
      french = takes_text r.amended.descriptions r.told.french t.french (λ z. (descriptions-flag z).1.1.0 refl) i;
      german = takes_text r.amended.descriptions r.told.german t.german (λ z. (descriptions-flag z).1.1.1.0 refl) i;
      english = takes_text r.amended.descriptions r.told.english t.english (λ z. (descriptions-flag z).1.1.1.1.0 refl) i;
      currency = takes_text r.amended.currency r.told.currency t.currency (λ z. (currency-flag z).1.1.1.1.1.1.0 refl) i;
      return_is_double =
          takes_sign r.amended.return_is_double r.told.return_is_double t.return_is_double
          (λ z. (double-flag z).1.1.1.1.1.1.1.1.0 refl) i;
    }
  where
    by : (f : ℕ) (flag : Bool) → flag ≡ differs_under f fare_table_lines (fare_table_marks t r) → flag ≡ false → Spared f fare_table_lines (fare_table_marks t r)
    by f flag = spares flag f fare_table_lines (fare_table_marks t r)

abbrev pub fare_table_meaning : Meaning FareTable FareTableTold ℕ ℕ
fare_table_meaning =
    record {
      table = fare_table_table;
      context = fare_table_context;
      values = fare_table_in;
      supplier = λ r. r.supplier;
      number = λ r. r.number;
      numbers = order_of nat_cmp_total;
      apart = apart_numbers;
      record_number = λ n. n;
      key_flag = λ r. r.key_flag;
      told = λ r. r.told;
      order = λ r. r.number;
      lines = fare_table_lines;
      marks = fare_table_marks;
      takes = fare_table_takes;
      takes_all = fare_table_takes_all;
      file_order = order_of nat_cmp_total;
    }
