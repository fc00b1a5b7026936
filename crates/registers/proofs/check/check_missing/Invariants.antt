use Rattle.std.proofs.Common.{◌≡◌, ℕ, ◌<◌, false, List, length, get_or}
use Rattle.files.specs.Files.{record_at}
use Rattle.registers.specs.Admission.{is_missing}
use Rattle.registers.specs.Indexes.{Index}
use Rattle.registers.proofs.check.check_missing.Given as goal

abbrev pub invariant-loop-entry : goal.invariant-loop-entry
invariant-loop-entry g l =
    let m = g.K.Kind.meaning in
    (s : ℕ) (row : ℕ → List ℕ) → Index m s row g.K.Number.Ord.cmp l.places →
    (k : ℕ) (d : _) → k < l.entry-index → is_missing m s (record_at m s row) (length l.places) (get_or l.own k d) ≡ false
