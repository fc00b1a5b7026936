-- The rows of a file by their bytes.
use Rattle.std.specs.Prelude.{ℕ, List}
use Rattle.files.specs.declared.rows.Rows.{Rows}
use Rattle.kinds.specs.Meaning.{Meaning}
use Rattle.files.specs.Files.{record_at, row_of}

abbrev pub row_in : Rows → ℕ → List ℕ
row_in rows k = row_of rows.bytes.now rows.length k

-- the records in the rows
abbrev pub record_in : {R T N K : Type 0} → Meaning R T N K → Rows → ℕ → R
record_in m rows = record_at m rows.supplier (row_in rows)
