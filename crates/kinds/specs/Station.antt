-- Stations: their columns, their cover, and what they mean.
use Rattle.std.specs.Prelude.{◌≡◌, ℕ, Bool, false, List, [], ◌∷◌, refl}
use Rattle.std.specs.Cmp.{nat_cmp_total}
use Rattle.fields.specs.declared.rule.Content.TheVariants.{Any, Between, Amendment, PlainText, Supplier}
use Rattle.fields.specs.declared.rule.Field.{Field}
use Rattle.fields.specs.declared.rule.FieldType.TheVariants.{Alphanumeric, Numeric}
use Rattle.fields.specs.declared.rule.Need.TheVariants.{Mandatory, Optional}
use Rattle.fields.specs.declared.text.Text.{Text}
use Rattle.fields.specs.Bytes.{columns}
use Rattle.fields.specs.Flags.{key_flag}
use Rattle.fields.specs.Rules.{field}
use Rattle.kinds.specs.declared.cover.Cover.TheVariants.{By, Flag}
use Rattle.kinds.specs.declared.cover.Line.{Line}
use Rattle.kinds.specs.declared.station.Station.{Station}
use Rattle.kinds.specs.declared.station.StationFlags.{StationFlags}
use Rattle.kinds.specs.declared.station.StationTold.{StationTold}
use Rattle.kinds.specs.Cover.{TrueFlags, differs_under, line}
use Rattle.kinds.specs.Meaning.{Meaning}
use Rattle.kinds.specs.Orders.{apart_numbers, by_text, order_of}
use Rattle.kinds.specs.Taking.{Spared, spares, takes_number, takes_text}
use Rattle.kinds.specs.Values.{flag_in, number_in, numbers_differ, row_context, taken, text_in, texts_differ}

abbrev pub station_table : List Field
station_table =
    field 1 1 4 Numeric Mandatory Supplier
    ∷ (field 2 5 9 Numeric Mandatory Any
    ∷ (field 3 10 10 Numeric Mandatory (Between 0 2)
    ∷ (field 5 16 50 Alphanumeric Mandatory Any
    ∷ (field 6 51 51 Numeric Mandatory Amendment
    ∷ (field 7 52 68 Alphanumeric Mandatory PlainText
    ∷ (field 8 69 69 Numeric Mandatory Amendment
    ∷ (field 9 70 86 Alphanumeric Optional Any
    ∷ (field 10 87 87 Numeric Mandatory Amendment
    ∷ (field 11 88 91 Numeric Optional Any
    ∷ (field 12 92 92 Numeric Optional Amendment
    ∷ []))))))))))

abbrev pub station_lines : List Line
station_lines =
    line 5 (By 6)
    ∷ (line 6 Flag
    ∷ (line 7 (By 8)
    ∷ (line 8 Flag
    ∷ (line 9 (By 10)
    ∷ (line 10 Flag
    ∷ (line 11 (By 12)
    ∷ (line 12 Flag
    ∷ [])))))))

abbrev pub told_columns : List ℕ → StationTold
told_columns row =
    record {
      name = text_in 35 16 50 row;
      designation = text_in 17 52 68 row;
      route_description = text_in 17 70 86 row;
      zone = number_in 88 91 row;
    }

abbrev pub flag_columns : List ℕ → StationFlags
flag_columns row =
    record {
      name = flag_in 51 row;
      designation = flag_in 69 row;
      route_description = flag_in 87 row;
      zone = flag_in 92 row;
    }

abbrev pub station_in : ℕ → List ℕ → Station
station_in s row =
    record {
      supplier = s;
      number = number_in 5 9 row;
      key_flag = key_flag (columns 10 10 row);
      told = told_columns row;
      amended = flag_columns row;
    }

abbrev pub station_marks : StationTold → Station → List Bool
station_marks t r =
    texts_differ t.name r.told.name
    ∷ (r.amended.name
    ∷ (texts_differ t.designation r.told.designation
    ∷ (r.amended.designation
    ∷ (texts_differ t.route_description r.told.route_description
    ∷ (r.amended.route_description
    ∷ (numbers_differ t.zone r.told.zone
    ∷ (r.amended.zone
    ∷ [])))))))

abbrev pub station_takes : StationTold → Station → StationTold
station_takes t r =
    record {
      name = taken r.amended.name r.told.name t.name;
      designation = taken r.amended.designation r.told.designation t.designation;
      route_description = taken r.amended.route_description r.told.route_description t.route_description;
      zone = taken r.amended.zone r.told.zone t.zone;
    }

-- law 1
pub station_takes_all : (t : StationTold) (r : Station) → TrueFlags station_lines (station_marks t r) → station_takes t r ≡ r.told
station_takes_all t r h =
    λ i. record {
      name = takes_text r.amended.name r.told.name t.name (λ z. (by 6 _ h.1.0 z).0 refl) i;
      designation = takes_text r.amended.designation r.told.designation t.designation (λ z. (by 8 _ h.1.1.1.0 z).1.1.0 refl) i;
      route_description =
          takes_text r.amended.route_description r.told.route_description t.route_description
          (λ z. (by 10 _ h.1.1.1.1.1.0 z).1.1.1.1.0 refl) i;
      zone = takes_number r.amended.zone r.told.zone t.zone (λ z. (by 12 _ h.1.1.1.1.1.1.1.0 z).1.1.1.1.1.1.0 refl) i;
    }
  where
    by : (f : ℕ) (flag : Bool) → flag ≡ differs_under f station_lines (station_marks t r) → flag ≡ false → Spared f station_lines (station_marks t r)
    by f flag = spares flag f station_lines (station_marks t r)

abbrev pub station_meaning : Meaning Station StationTold ℕ (Text 17)
station_meaning =
    record {
      table = station_table;
      context = row_context;
      values = station_in;
      supplier = λ r. r.supplier;
      number = λ r. r.number;
      numbers = order_of nat_cmp_total;
      apart = apart_numbers;
      record_number = λ n. n;
      key_flag = λ r. r.key_flag;
      told = λ r. r.told;
      order = λ r. r.told.designation;
      lines = station_lines;
      marks = station_marks;
      takes = station_takes;
      takes_all = station_takes_all;
      file_order = order_of (by_text 17);
    }
