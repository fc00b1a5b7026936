-- The parts of a day of the calendar are small.
use Rattle.std.proofs.Common.{◌≡◌, ℕ, ◌≤◌, true, arith}
use Rattle.std.proofs.lemmas.Bool.Decides.{nat_tests}
use Rattle.fields.specs.Calendar.{on_calendar}

pub day_bounds : (year month day : ℕ) → on_calendar year month day ≡ true → (year ≤ 9999) × (month ≤ 12) × (day ≤ 31)
unfolding on_calendar
day_bounds year month day real = grind (arith, nat_tests)
