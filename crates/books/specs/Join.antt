-- The series that joins two stations: of those that are live, the least route number, and then the lowest series number.
use Rattle.std.specs.Prelude.{◌≡◌, ℕ, Bool, true, false, cond, ◌&&◌, ◌||◌, List, Some, None, fold, Option, MatchOption, ◌==◌, nat_lt}
use Rattle.std.specs.Option.{option_map}
use Rattle.std.specs.List.{ContainsAt as Has}
use Rattle.kinds.specs.declared.series.SeriesTold.{SeriesTold}
use Rattle.registers.specs.declared.entry.Entry.{Entry}
use Rattle.registers.specs.declared.entry.Standing.TheVariants.{Live, Retired}
use Rattle.registers.specs.Entries.{is_own}

-- the ends of a series are these two stations, either way round
abbrev pub joins : ℕ → ℕ → SeriesTold → Bool
joins a b t =
    (t.departure.station == a && t.destination.station == b)
    || (t.departure.station == b && t.destination.station == a)

-- route numbers first, and then series numbers
abbrev pub comes_first : ℕ × ℕ → ℕ × ℕ → Bool
comes_first x y = nat_lt x.0 y.0 || (x.0 == y.0 && nat_lt x.1 y.1)

-- the better of the best so far and another
abbrev pub better : Option (ℕ × ℕ) → ℕ × ℕ → ℕ × ℕ
better None x = x
better (Some y) x = cond (comes_first x y) x y

-- the best so far, with one more series: its route number and its number
abbrev pub with_series : ℕ → ℕ → Option (ℕ × ℕ) → Entry ℕ SeriesTold → Option (ℕ × ℕ)
with_series a b best e =
    elim e.standing [ Live t ↦ cond (joins a b t) (Some (better best (t.route_number, e.id.number))) best | Retired y ↦ best ]

abbrev pub with_own : ℕ → ℕ → ℕ → Option (ℕ × ℕ) → Entry ℕ SeriesTold → Option (ℕ × ℕ)
with_own s a b best e = cond (is_own s e) (with_series a b best e) best

-- the number of the series of a supplier that joins two stations
unfoldable pub joined : List (Entry ℕ SeriesTold) → ℕ → ℕ → ℕ → Option ℕ
joined es s a b = option_map (λ x. x.1) (fold (with_own s a b) None es)

-- a live series of the supplier joins the stations, with this route number and number
pub record Joining (es : List (Entry ℕ SeriesTold)) (s a b route number : ℕ) : Type 0 where
  pub told : SeriesTold
  pub stands : Has es (record { id = record { supplier = s; number = number }; standing = Live told })
  pub between : joins a b told ≡ true
  pub route_is : told.route_number ≡ route

-- none exactly when no live series joins the stations; else one that does, and none that does comes before it
abbrev pub Nearest : List (Entry ℕ SeriesTold) → ℕ → ℕ → ℕ → Option ℕ → Type 0
Nearest es s a b r =
    MatchOption r ((route number : ℕ) → Joining es s a b route number → ⊥)
    (λ n. (route : ℕ) × Joining es s a b route n × ((other m : ℕ) → Joining es s a b other m → comes_first (other, m) (route, n) ≡ false))

-- the route number and the number of a live series that joins the stations
abbrev pub series_between : ℕ → ℕ → Entry ℕ SeriesTold → Option (ℕ × ℕ)
series_between a b e = elim e.standing [ Live t ↦ cond (joins a b t) (Some (t.route_number, e.id.number)) None | Retired y ↦ None ]
