use Rattle.std.proofs.Common.{rules, sym, tests, ◌∙◌}
use Rattle.std.proofs.lemmas.Iterator.{YieldsList-from_slice}
use Rattle.std.proofs.lemmas.Iterator.Search.{all_from_yields_List}
use Rattle.fields.specs.Bytes.{has}
use Rattle.fields.proofs.Values.{every_all}
use Rattle.fields.proofs.class.Class.spans.Goals as goal

pub returns : goal.returns
returns c =
    let k = c.args.self in
    let bs = c.args.bytes.now in
    all_from_yields_List (has k) _ _ _ c.all.ensures.ran (YieldsList-from_slice bs cc) (λ x b q d. search (rules, tests))
    ∙ sym (every_all k bs)
