use Rattle.std.proofs.Common.{rules, ◌∙◌}
use Rattle.std.proofs.lemmas.Iterator.{YieldsList-from_slice}
use Rattle.std.proofs.lemmas.Iterator.Consumers.{YieldsList-at, YieldsList-from_filter_map, reduce_from_yields_List}
use Rattle.books.specs.Join.{series_between}
use Rattle.books.proofs.Nearest.{least, least_is}
use Rattle.books.proofs.join.join_among.Goals as goal

pub returns : goal.returns
returns c =
    let a = c.args.one in
    let b = c.args.other in
    reduce_from_yields_List (least a b) _ c.min.result c.min.ensures.ran
    (YieldsList-from_filter_map _ (series_between a b) (YieldsList-at c.filter_map.ensures.source (YieldsList-from_slice c.args.own.now cc)) c.filter_map.ensures.closure (λ x r q k. search rules))
    ∙ least_is a b c.args.own.now
