use Rattle.std.proofs.Common.{◌≡◌, length, take, sym, refl, subst, arith}
use Rattle.books.specs.Lines.{SingleLines, line_after}
use Rattle.books.proofs.Placed.{at_below, noted_at, receipt_left}
use Rattle.books.proofs.Singles.{noted_single}
use Rattle.books.proofs.lines.Lines.note.Goals as goal

pub listed : goal.listed
listed c =
    let self = c.args.self.now in
    let long : length self.lines ≡ 16 = omega arith in
    let low = at_below self.lines self.used self.receipts c.unwrap_or-at.result c.args.head.now self.few long c.requires c.place_of.result c.unwrap_or-at.ensures c.place_of.ensures in
    omega (arith, low)

pub bounds-self-at : goal.bounds-self-at
bounds-self-at c =
    let self = c.args.self.now in
    let long : length self.lines ≡ 16 = omega arith in
    at_below self.lines self.used self.receipts c.unwrap_or-at.result c.args.head.now self.few long c.requires c.place_of.result c.unwrap_or-at.ensures c.place_of.ensures

pub overflow_add-self : goal.overflow_add-self
overflow_add-self c = let self = c.args.self.now in omega (arith, receipt_left (take self.used self.lines) self.receipts c.args.head.now c.requires)

pub invariant_of-self : goal.invariant_of-self
invariant_of-self c =
    let self = c.args.self.now in
    let head = c.args.head.now in
    let at = c.unwrap_or-at in
    let long : length self.lines ≡ 16 = omega arith in
    let low = at_below self.lines self.used self.receipts at.result head self.few long c.requires c.place_of.result at.ensures c.place_of.ensures in
    let lines = noted_at self.lines self.used self.receipts at.result head self.few long c.requires c.place_of.result at.ensures c.place_of.ensures c.max-self.result c.max-self.ensures in
    record {
      few = omega (arith, c.max-self.ensures, low, self.few);
      single = subst SingleLines (sym lines) (noted_single (take self.used self.lines) (line_after head) self.single);
    }

pub returns : goal.returns
returns c =
    let self = c.args.self.now in
    let at = c.unwrap_or-at in
    let long : length self.lines ≡ 16 = omega arith in
    record {
      receipt = (refl, refl);
      lines = noted_at self.lines self.used self.receipts at.result c.args.head.now self.few long c.requires c.place_of.result at.ensures c.place_of.ensures c.max-self.result c.max-self.ensures;
    }
