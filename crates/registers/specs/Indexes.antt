-- The sorted places of a file's rows.
use Rattle.std.specs.Prelude.{◌≡◌, ℕ, ◌<◌, ◌≤◌, List, map, length, take, None, ◌≢◌}
use Rattle.std.specs.declared.cmp.Ordering.{Ordering}
use Rattle.std.specs.List.{range_with_len}
use Rattle.std.specs.Cmp.{IsTotalOrder}
use Rattle.std.specs.List.Sorted.{IsPermutation}
use Rattle.indexes.specs.declared.Place.{Place}
use Rattle.indexes.specs.Places.{SortedPlaces}
use Rattle.kinds.specs.Meaning.{Meaning}
use Rattle.files.specs.Files.{record_at}
use Rattle.registers.specs.declared.entry.Entry.{Entry}
use Rattle.registers.specs.Admission.{entries_after, register_fault}
use Rattle.registers.specs.Entries.{Ascending}

abbrev pub row_place : {R T N K : Type 0} → Meaning R T N K → ℕ → (ℕ → List ℕ) → ℕ → Place N
row_place m s row k = record { number = m.number (record_at m s row k); row = k }

-- as many places as rows, each that of a row's number, in the order of the numbers
pub record Index {R T N K : Type 0} (m : Meaning R T N K) (s : ℕ) (row : ℕ → List ℕ) (P : N → N → Ordering) (ps : List (Place N)) : Type 0 where
  pub shuffled : IsPermutation (map (row_place m s row) (range_with_len 0 (length ps))) ps
  pub sorted : (o : IsTotalOrder P) → SortedPlaces o ps

-- a file of which nothing is refused, with room for its entries, and the index of its rows
pub record Enterable {R T N K : Type 0} (m : Meaning R T N K) (s : ℕ) (row : ℕ → List ℕ) (P : N → N → Ordering) (run : List (Entry N T)) (used year : ℕ) (ps : List (Place N)) : Type 0 where
  pub within : used ≤ length run
  pub ascending : Ascending m.numbers (take used run)
  pub index : Index m s row P ps
  pub single : (j k : ℕ) → j < k → k < length ps → m.number (record_at m s row j) ≢ m.number (record_at m s row k)
  pub none : register_fault m s (record_at m s row) (take used run) year (length ps) ≡ None
  pub room : length (entries_after m s (record_at m s row) (take used run) year (length ps)) ≤ length run
