-- Series: their columns, their cover, and what they mean.
use Rattle.std.specs.Prelude.{◌≡◌, ℕ, Bool, true, false, cond, List, [], ◌∷◌, ◌==◌, refl}
use Rattle.std.specs.Cmp.{IsTotalOrder, nat_cmp_total, on_total, then_total}
use Rattle.std.specs.Ordering.{nat_cmp, ordering_then}
use Rattle.std.specs.declared.cmp.Ordering.{Ordering}
use Rattle.fields.specs.declared.rule.Content.TheVariants.{Any, Between, Amendment, Sign, Supplier}
use Rattle.fields.specs.declared.rule.Field.{Field}
use Rattle.fields.specs.declared.rule.FieldType.TheVariants.{Alphanumeric, Numeric}
use Rattle.fields.specs.declared.rule.Need.TheVariants.{Mandatory, Optional}
use Rattle.fields.specs.Bytes.{columns}
use Rattle.fields.specs.Flags.{key_flag}
use Rattle.fields.specs.Rules.{field}
use Rattle.kinds.specs.declared.cover.Cover.TheVariants.{By, Flag}
use Rattle.kinds.specs.declared.cover.Line.{Line}
use Rattle.kinds.specs.declared.series.End.{End}
use Rattle.kinds.specs.declared.series.Series.{Series}
use Rattle.kinds.specs.declared.series.SeriesFlags.{SeriesFlags}
use Rattle.kinds.specs.declared.series.SeriesKey.{SeriesKey}
use Rattle.kinds.specs.declared.series.SeriesTold.{SeriesTold}
use Rattle.kinds.specs.declared.series.SeriesType.{SeriesType}
use Rattle.kinds.specs.declared.series.SeriesType.TheVariants.{Transit, Border, Stations}
use Rattle.kinds.specs.Cover.{TrueFlags, differs_under, line}
use Rattle.kinds.specs.Meaning.{Meaning}
use Rattle.kinds.specs.Orders.{apart_numbers, by_text, order_of, text_cmp}
use Rattle.kinds.specs.Taking.{Reaches, Spared, same_number, spares, takes, takes_number, takes_sign, takes_text}
use Rattle.kinds.specs.Values.{flag_in, number_in, numbers_differ, row_context, sign_in, signs_differ, taken, text_in, texts_differ}

-- '+', 'B' and 'S'
abbrev pub usual_sign : ℕ
usual_sign = 43

abbrev pub bus_sign : ℕ
bus_sign = 66

abbrev pub ferry_sign : ℕ
ferry_sign = 83

abbrev pub series_table : List Field
series_table =
    field 1 1 4 Numeric Mandatory Supplier
    ∷ (field 2 5 9 Numeric Mandatory Any
    ∷ (field 3 10 10 Numeric Mandatory (Between 0 2)
    ∷ (field 4 11 11 Numeric Mandatory (Between 1 3)
    ∷ (field 5 12 12 Numeric Mandatory Amendment
    ∷ (field 6 13 17 Numeric Mandatory Any
    ∷ (field 7 18 19 Numeric Optional Any
    ∷ (field 8 20 36 Alphanumeric Mandatory Any
    ∷ (field 9 37 37 Numeric Mandatory Amendment
    ∷ (field 10 38 42 Numeric Mandatory Any
    ∷ (field 11 43 44 Numeric Optional Any
    ∷ (field 12 45 61 Alphanumeric Mandatory Any
    ∷ (field 13 62 62 Numeric Mandatory Amendment
    ∷ (field 14 63 63 Numeric Mandatory Any
    ∷ (field 15 64 65 Numeric Optional Any
    ∷ (field 16 66 67 Numeric Optional Any
    ∷ (field 17 68 68 Alphanumeric Optional (Sign usual_sign)
    ∷ (field 18 69 69 Numeric Mandatory Amendment
    ∷ (field 19 70 70 Alphanumeric Optional (Sign bus_sign)
    ∷ (field 20 71 71 Numeric Mandatory Amendment
    ∷ (field 21 72 72 Alphanumeric Optional (Sign ferry_sign)
    ∷ (field 22 73 73 Numeric Mandatory Amendment
    ∷ [])))))))))))))))))))))

abbrev pub series_lines : List Line
series_lines =
    line 4 (By 5)
    ∷ (line 5 Flag
    ∷ (line 6 (By 9)
    ∷ (line 7 (By 9)
    ∷ (line 8 (By 9)
    ∷ (line 9 Flag
    ∷ (line 10 (By 13)
    ∷ (line 11 (By 13)
    ∷ (line 12 (By 13)
    ∷ (line 13 Flag
    ∷ (line 14 (By 18)
    ∷ (line 15 (By 18)
    ∷ (line 16 (By 18)
    ∷ (line 17 (By 18)
    ∷ (line 18 Flag
    ∷ (line 19 (By 20)
    ∷ (line 20 Flag
    ∷ (line 21 (By 22)
    ∷ (line 22 Flag
    ∷ []))))))))))))))))))

-- 1, 2 or 3
abbrev pub series_type_of : ℕ → SeriesType
series_type_of n = cond (n == 1) Transit (cond (n == 2) Border Stations)

abbrev pub type_number : SeriesType → ℕ
type_number Transit = 1
type_number Border = 2
type_number Stations = 3

abbrev pub end_columns : ℕ → ℕ → ℕ → ℕ → ℕ → ℕ → List ℕ → End
end_columns s₁ s₂ c₁ c₂ d₁ d₂ row =
    record { station = number_in s₁ s₂ row; connection = number_in c₁ c₂ row; designation = text_in 17 d₁ d₂ row }

abbrev pub series_told : List ℕ → SeriesTold
series_told row =
    record {
      series_type = series_type_of (number_in 11 11 row);
      departure = end_columns 13 17 18 19 20 36 row;
      destination = end_columns 38 42 43 44 45 61 row;
      route_number = number_in 63 63 row;
      product = number_in 64 65 row;
      offer = number_in 66 67 row;
      usual = sign_in usual_sign 68 row;
      bus = sign_in bus_sign 70 row;
      ferry = sign_in ferry_sign 72 row;
    }

abbrev pub series_flags : List ℕ → SeriesFlags
series_flags row =
    record {
      series_type = flag_in 12 row;
      departure = flag_in 37 row;
      destination = flag_in 62 row;
      route = flag_in 69 row;
      bus = flag_in 71 row;
      ferry = flag_in 73 row;
    }

abbrev pub series_in : ℕ → List ℕ → Series
series_in s row =
    record {
      supplier = s;
      number = number_in 5 9 row;
      key_flag = key_flag (columns 10 10 row);
      told = series_told row;
      amended = series_flags row;
    }

abbrev pub types_differ : SeriesType → SeriesType → Bool
types_differ a b = numbers_differ (type_number a) (type_number b)

abbrev pub series_marks : SeriesTold → Series → List Bool
series_marks t r =
    types_differ t.series_type r.told.series_type
    ∷ (r.amended.series_type
    ∷ (numbers_differ t.departure.station r.told.departure.station
    ∷ (numbers_differ t.departure.connection r.told.departure.connection
    ∷ (texts_differ t.departure.designation r.told.departure.designation
    ∷ (r.amended.departure
    ∷ (numbers_differ t.destination.station r.told.destination.station
    ∷ (numbers_differ t.destination.connection r.told.destination.connection
    ∷ (texts_differ t.destination.designation r.told.destination.designation
    ∷ (r.amended.destination
    ∷ (numbers_differ t.route_number r.told.route_number
    ∷ (numbers_differ t.product r.told.product
    ∷ (numbers_differ t.offer r.told.offer
    ∷ (signs_differ t.usual r.told.usual
    ∷ (r.amended.route
    ∷ (signs_differ t.bus r.told.bus
    ∷ (r.amended.bus
    ∷ (signs_differ t.ferry r.told.ferry
    ∷ (r.amended.ferry
    ∷ []))))))))))))))))))

abbrev pub series_takes : SeriesTold → Series → SeriesTold
series_takes t r =
    record {
      series_type = taken r.amended.series_type r.told.series_type t.series_type;
      departure = taken r.amended.departure r.told.departure t.departure;
      destination = taken r.amended.destination r.told.destination t.destination;
      route_number = taken r.amended.route r.told.route_number t.route_number;
      product = taken r.amended.route r.told.product t.product;
      offer = taken r.amended.route r.told.offer t.offer;
      usual = taken r.amended.route r.told.usual t.usual;
      bus = taken r.amended.bus r.told.bus t.bus;
      ferry = taken r.amended.ferry r.told.ferry t.ferry;
    }

-- type, the two designations and the route number, in turn
abbrev pub series_key : Series → SeriesKey
series_key r =
    record {
      series_type = type_number r.told.series_type;
      departure = r.told.departure.designation;
      destination = r.told.destination.designation;
      route_number = r.told.route_number;
    }

-- an end's three fields are covered by one flag
pub takes_end : (flag : Bool) (newer older : End) → Reaches flag (numbers_differ older.station newer.station) →
    Reaches flag (numbers_differ older.connection newer.connection) → Reaches flag (texts_differ older.designation newer.designation) → taken flag newer older ≡ newer
takes_end true newer older a b c = refl
takes_end false newer older a b c =
    λ i. record {
      station = takes_number false newer.station older.station a i;
      connection = takes_number false newer.connection older.connection b i;
      designation = takes_text false newer.designation older.designation c i;
    }

pub same_type : (a b : SeriesType) → type_number a ≡ type_number b → a ≡ b
same_type Transit Transit e = refl
same_type Transit Border e = cc
same_type Transit Stations e = cc
same_type Border Transit e = cc
same_type Border Border e = refl
same_type Border Stations e = cc
same_type Stations Transit e = cc
same_type Stations Border e = cc
same_type Stations Stations e = refl

pub takes_type : (flag : Bool) (newer older : SeriesType) → Reaches flag (types_differ older newer) → taken flag newer older ≡ newer
takes_type = takes types_differ (λ a b e. same_type a b (same_number _ _ e))

-- law 1
pub series_takes_all : (t : SeriesTold) (r : Series) → TrueFlags series_lines (series_marks t r) → series_takes t r ≡ r.told
series_takes_all t r h =
    let type-flag = by 5 _ h.1.0 in
    let departure-flag = by 9 _ h.1.1.1.1.1.0 in
    let destination-flag = by 13 _ h.1.1.1.1.1.1.1.1.1.0 in
    let route-flag = by 18 _ h.1.1.1.1.1.1.1.1.1.1.1.1.1.1.0 in
    let bus-flag = by 20 _ h.1.1.1.1.1.1.1.1.1.1.1.1.1.1.1.1.0 in
    let ferry-flag = by 22 _ h.1.1.1.1.1.1.1.1.1.1.1.1.1.1.1.1.1.1.0 in
    λ i. record {
      series_type = takes_type r.amended.series_type r.told.series_type t.series_type (λ z. (type-flag z).0 refl) i;
      departure =
          takes_end r.amended.departure r.told.departure t.departure
          (λ z. (departure-flag z).1.1.0 refl) (λ z. (departure-flag z).1.1.1.0 refl) (λ z. (departure-flag z).1.1.1.1.0 refl) i;
      destination =
          takes_end r.amended.destination r.told.destination t.destination
          (λ z. (destination-flag z).1.1.1.1.1.1.0 refl) (λ z. (destination-flag z).1.1.1.1.1.1.1.0 refl)
          (λ z. (destination-flag z).1.1.1.1.1.1.1.1.0 refl) i;
      route_number =
          takes_number r.amended.route r.told.route_number t.route_number
          (λ z. (route-flag z).1.1.1.1.1.1.1.1.1.1.0 refl) i;
      product = takes_number r.amended.route r.told.product t.product (λ z. (route-flag z).1.1.1.1.1.1.1.1.1.1.1.0 refl) i;
      offer = takes_number r.amended.route r.told.offer t.offer (λ z. (route-flag z).1.1.1.1.1.1.1.1.1.1.1.1.0 refl) i;
      usual = takes_sign r.amended.route r.told.usual t.usual (λ z. (route-flag z).1.1.1.1.1.1.1.1.1.1.1.1.1.0 refl) i;
      bus = takes_sign r.amended.bus r.told.bus t.bus (λ z. (bus-flag z).1.1.1.1.1.1.1.1.1.1.1.1.1.1.1.0 refl) i;
      ferry =
          takes_sign r.amended.ferry r.told.ferry t.ferry
          (λ z. (ferry-flag z).1.1.1.1.1.1.1.1.1.1.1.1.1.1.1.1.1.0 refl) i;
    }
  where
    by : (f : ℕ) (flag : Bool) → flag ≡ differs_under f series_lines (series_marks t r) → flag ≡ false → Spared f series_lines (series_marks t r)
    by f flag = spares flag f series_lines (series_marks t r)

-- the four parts in turn
abbrev pub series_key_cmp : SeriesKey → SeriesKey → Ordering
series_key_cmp x y =
    ordering_then (nat_cmp x.series_type y.series_type)
    (ordering_then (text_cmp x.departure y.departure)
    (ordering_then (text_cmp x.destination y.destination) (nat_cmp x.route_number y.route_number)))

abbrev pub by_key : IsTotalOrder series_key_cmp
by_key =
    then_total (on_total (λ k. k.series_type) nat_cmp_total)
    (then_total (on_total (λ k. k.departure) (by_text 17))
    (then_total (on_total (λ k. k.destination) (by_text 17)) (on_total (λ k. k.route_number) nat_cmp_total)))

abbrev pub series_meaning : Meaning Series SeriesTold ℕ SeriesKey
series_meaning =
    record {
      table = series_table;
      context = row_context;
      values = series_in;
      supplier = λ r. r.supplier;
      number = λ r. r.number;
      numbers = order_of nat_cmp_total;
      apart = apart_numbers;
      record_number = λ n. n;
      key_flag = λ r. r.key_flag;
      told = λ r. r.told;
      order = series_key;
      lines = series_lines;
      marks = series_marks;
      takes = series_takes;
      takes_all = series_takes_all;
      file_order = order_of by_key;
    }
