use Rattle.std.proofs.Common.{◌≡◌, ◌-◌, leb, length, take, sym, ap, ◌∙◌, arith}
use Rattle.std.proofs.lemmas.List.{length-take}
use Rattle.books.specs.Lines.{judged_line, line_fault, line_of}
use Rattle.books.proofs.Placed.{found_line}
use Rattle.books.proofs.lines.Lines.check.Goals as goal

pub returns : goal.returns
unfolding line_fault
returns c =
    let self = c.args.self.now in
    let h = c.args.head.now in
    let used = self.used in
    let all : used - 0 ≡ used = omega arith in
    let long : used ≡ length (take used self.lines) = sym (length-take used self.lines ∙ omega arith) in
    let line = c.line_of-line.ensures ∙ (found_line (take (used - 0) self.lines) h.supplier ∙ ap (λ n. line_of (take n self.lines) h.supplier) all) in
    c.judge.ensures ∙ (λ i. judged_line (line i) (leb 16 (long i)) self.receipts h)
