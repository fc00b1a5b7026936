use Rattle.std.proofs.Common.{◌≡◌, ℕ, ◌<◌, None}
use Rattle.files.specs.Files.{Noted, key_before, light_fault}
use Rattle.files.specs.Rows.{row_in}
use Rattle.files.proofs.reading.scan.Given as goal

abbrev pub invariant-loop-i : goal.invariant-loop-i
invariant-loop-i g l =
    let m = g.K.Kind.meaning in
    let s = l.rows.supplier in
    let row = row_in l.rows in
    (l.before ≡ key_before m s row l.i)
    × ((k : ℕ) → k < l.i → light_fault m s row k ≡ None)
    × Noted m s row l.i l.place-items
