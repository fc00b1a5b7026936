use Rattle.std.proofs.Common.{rules, eqb, ◌∙◌}
use Rattle.std.proofs.lemmas.Iterator.{YieldsList-from_slice}
use Rattle.std.proofs.lemmas.Iterator.Search.{find_from_yields_List}
use Rattle.books.proofs.lines.line_of.Goals as goal

pub returns : goal.returns
returns c = c.copied.ensures ∙ find_from_yields_List (λ l. eqb l.supplier c.args.supplier) _ _ _ c.find.ensures.ran (YieldsList-from_slice c.args.lines.now cc) (λ x b q k. search rules)
