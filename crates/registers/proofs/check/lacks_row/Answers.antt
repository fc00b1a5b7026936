use Rattle.std.proofs.Common.{not, ◌&&◌, length, sym, refl, ap, ◌∙◌}
use Rattle.files.specs.Files.{record_at}
use Rattle.files.proofs.Judged.{total_of}
use Rattle.registers.specs.Admission.{has_row}
use Rattle.registers.specs.Entries.{is_live}
use Rattle.registers.proofs.Numbers.{row_known, turned}
use Rattle.registers.proofs.check.lacks_row.Goals as goal

pub returns-in-Live : goal.returns-in-Live
returns-in-Live g c s row index =
    let m = g.K.Kind.meaning in
    let o = total_of m.numbers g.met.K.Kind.numbered in
    let ps = c.args.places.now in
    let x = c.args.entry.now.id.number in
    let h = has_row m s (record_at m s row) (length ps) x in
    turned c.is_none.result h _ c.is_none.ensures
    (row_known m s row ps index o (λ x y. g.met.K.Kind.numbered x y _ refl) x c.row_of.result (c.row_of.ensures o (index.sorted o)))
    ∙ ap (λ st. is_live st && not h) (sym c.in-Live.is)
