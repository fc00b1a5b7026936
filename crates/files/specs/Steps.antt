-- What reading one row finds, and how many rows were read before one at fault.
use Rattle.std.specs.Prelude.{◌≡◌, ℕ, ◌-◌, List, None, Ok, Err, Option, Result}
use Rattle.kinds.specs.Meaning.{Meaning, reads}
use Rattle.files.specs.declared.fault.FileFault.{FileFault}
use Rattle.files.specs.Files.{judged}

-- a row is read as r, and does not come before the row of the key before it
pub record Read {R T N K : Type 0} (m : Meaning R T N K) (s : ℕ) (row : List ℕ) (before : Option K) (r : R) : Type 0 where
  pub is_read : reads m s row ≡ Ok r
  pub ordered : judged m before (Ok r) ≡ None

-- how many of n rows come before the one at fault, all where there is none
abbrev pub rows_read : ℕ → Result (Unit {0}) FileFault → ℕ
rows_read n (Ok _) = n
rows_read n (Err e) = e.row - 1
