-- A file: rows of one kind, one after another, read under a head's supplier.
use Rattle.std.specs.Prelude.{◌≡◌, ℕ, zero, suc, ◌+◌, ◌*◌, ◌<◌, Bool, true, false, cond, ◌||◌, List, take, drop, is_ok, Some, None, Ok, Err, Option, Result, ◌≢◌, slice_index_or}
use Rattle.std.specs.Ordering.{is_eq, is_gt}
use Rattle.std.specs.List.{ContainsAt as Has}
use Rattle.fields.specs.declared.fault.FieldFault.{FieldFault}
use Rattle.indexes.specs.declared.Place.{Place}
use Rattle.kinds.specs.Meaning.{Meaning, reads}
use Rattle.files.specs.declared.fault.FileFault.{FileFault}
use Rattle.files.specs.declared.fault.RowFault.{RowFault}
use Rattle.files.specs.declared.fault.RowFault.TheVariants.{Field, Later, Twice}
use Rattle.files.specs.First.{first, or_else}

-- row k of rows that are so long, counted from 0
abbrev pub row_of : List ℕ → ℕ → ℕ → List ℕ
row_of bytes length k = take length (drop (k * length) bytes)

-- the fault of what a row is read as, after a row of this key: a field's, or that the row before comes later
abbrev pub judged : {R T N K : Type 0} → Meaning R T N K → Option K → Result R FieldFault → Option RowFault
judged m before (Err e) = Some (Field e)
judged m None (Ok r) = None
judged m (Some key) (Ok r) = cond (is_gt (m.file_order.cmp key (m.order r))) (Some (Later (m.record_number (m.number r)))) None

-- what reading a file answers, with the row counted from 1
abbrev pub told : Option (ℕ × RowFault) → Result (Unit {0}) FileFault
told None = Ok tt
told (Some p) = Err (record { row = p.0 + 1; fault = p.1 })

-- m is what the kind means, s the head's supplier, and row k the bytes of row k
module _ {R T N K : Type 0} (m : Meaning R T N K) (s : ℕ) (row : ℕ → List ℕ) where
  -- the record in a row
  abbrev pub record_at : ℕ → R
  record_at k = m.values s (row k)

  abbrev pub number_at : ℕ → ℕ
  number_at k = m.record_number (m.number (record_at k))

  -- in file order one row comes later than another
  abbrev pub comes_later : ℕ → ℕ → Bool
  comes_later j k = is_gt (m.file_order.cmp (m.order (record_at j)) (m.order (record_at k)))

  abbrev pub same_number : ℕ → ℕ → Bool
  same_number j k = is_eq (m.numbers.cmp (m.number (record_at j)) (m.number (record_at k)))

  -- one of the first n rows has the number of row k
  abbrev pub stands_below : ℕ → ℕ → Bool
  stands_below k zero = false
  stands_below k (suc n) = stands_below k n || same_number n k

  -- the order key of the row before, if there is one
  abbrev pub key_before : ℕ → Option K
  key_before zero = None
  key_before (suc k) = Some (m.order (record_at k))

  -- an earlier row has the number
  abbrev pub number_fault : ℕ → Option RowFault
  number_fault k = cond (stands_below k k) (Some (Twice (number_at k))) None

  -- 4, 5 or 6, then 7
  abbrev pub light_fault : ℕ → Option RowFault
  light_fault k = judged m (key_before k) (reads m s (row k))

  abbrev pub row_fault : ℕ → Option RowFault
  row_fault k = or_else (light_fault k) (number_fault k)

  -- the first fault of the first n rows
  unfoldable pub file_fault : ℕ → Option (ℕ × RowFault)
  file_fault n = first row_fault n

  -- n rows that keep the rules, without their order
  pub record SoundRows (n : ℕ) : Type 0 where
    pub read : (k : ℕ) → k < n → is_ok (reads m s (row k)) ≡ true
    pub ordered : (j k : ℕ) → j < k → k < n → comes_later j k ≡ false
    pub single : (j k : ℕ) → j < k → k < n → m.number (record_at j) ≢ m.number (record_at k)

  -- the places of the first f rows
  abbrev pub Noted : ℕ → List (Place N) → Type 0
  Noted f ps = (k : ℕ) (d : Place N) → k < f → slice_index_or ps k d ≡ record { number = m.number (record_at k); row = k }

  -- exactly the places of the first n rows, in whatever order
  pub record Indexed (n : ℕ) (ps : List (Place N)) : Type 0 where
    pub all : (k : ℕ) → k < n → Has ps (record { number = m.number (record_at k); row = k })
    pub only : (p : Place N) → Has ps p → (k : ℕ) × (k < n) × (p ≡ record { number = m.number (record_at k); row = k })
