use Rattle.std.proofs.Common.{◌≡◌, ℕ, ◌<◌, take, None}
use Rattle.files.specs.Files.{Noted, record_at}
use Rattle.files.specs.Rows.{row_in}
use Rattle.registers.specs.Admission.{row_refusal}
use Rattle.registers.proofs.register.Register.check_rows.Given as goal

abbrev pub invariant-loop-i : goal.invariant-loop-i
invariant-loop-i g l =
    let m = g.K.Kind.meaning in
    let s = l.rows.supplier in
    let row = row_in l.rows in
    ((k : ℕ) → k < l.i → row_refusal m s (record_at m s row) (take l.self.used l.self.entries.now) l.year k ≡ None)
    × Noted m s row l.i l.places
