-- The days of the Gregorian calendar in the years 2000 to 9999.
use Rattle.std.specs.Prelude.{ℕ, ◌%◌, Bool, cond, not, ◌&&◌, ◌||◌, List, length, Some, None, Option, ◌==◌, nat_le}
use Rattle.fields.specs.declared.class.Class.TheVariants.{Digit}
use Rattle.fields.specs.Bytes.{columns, every, value}

-- every fourth year has a 29 February, but of the full centuries only every fourth
abbrev pub leap : ℕ → Bool
leap year = year % 4 == 0 && (not (year % 100 == 0) || year % 400 == 0)

-- the days of a month
abbrev pub days : ℕ → ℕ → ℕ
days year month =
    cond (month == 2) (cond (leap year) 29 28)
    (cond (month == 4 || (month == 6 || (month == 9 || month == 11))) 30 31)

abbrev pub within : ℕ → ℕ → ℕ → Bool
within low high n = nat_le low n && nat_le n high

unfoldable pub on_calendar : ℕ → ℕ → ℕ → Bool
on_calendar year month day = within 2000 9999 year && (within 1 12 month && within 1 (days year month) day)

-- a year, a month and a day, where they are a day of the calendar
unfoldable pub day_of : ℕ → ℕ → ℕ → Option (ℕ × ℕ × ℕ)
day_of year month day = cond (on_calendar year month day) (Some (year, month, day)) None

-- the day that eight columns YYYYMMDD write
unfoldable pub date : List ℕ → Option (ℕ × ℕ × ℕ)
date bs =
    cond (length bs == 8 && every Digit bs)
    (day_of (value (columns 1 4 bs)) (value (columns 5 6 bs)) (value (columns 7 8 bs)))
    None
