use Rattle.std.proofs.Common.{◌&&◌, ◌∙◌, rules, tests}
use Rattle.std.proofs.lemmas.Iterator.{YieldsList-from_slice, YieldsList-from_zip}
use Rattle.std.proofs.lemmas.Iterator.Search.{any_from_yields_List}
use Rattle.kinds.specs.Cover.{covered_by}
use Rattle.kinds.proofs.Zips.{any_pair}
use Rattle.kinds.proofs.cover.Marked.differs_under.Goals as goal

pub returns : goal.returns
returns c =
    let flag = c.args.flag in
    let ls = c.args.self.now.lines.now in
    let ms = c.args.self.now.marks.now in
    any_from_yields_List (λ p. covered_by flag p.0.cover && p.1) c.any.new.self _ _ c.any.ensures.ran (YieldsList-from_zip (YieldsList-from_slice ls cc) (YieldsList-from_slice ms cc)) (λ x b q k. search (rules, tests))
    ∙ any_pair flag ls ms
