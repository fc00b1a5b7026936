use Rattle.std.proofs.Common.{◌≡◌, min, length, drop, rules, tests, sym, ◌∙◌, subst}
use Rattle.std.specs.List.{reduce}
use Rattle.std.proofs.lemmas.Iterator.{YieldsList-from_slice, YieldsList-from_map, YieldsList-from_zip}
use Rattle.std.proofs.lemmas.Iterator.Adapters.{YieldsList-from_skip, option_map_id}
use Rattle.std.proofs.lemmas.Iterator.Consumers.{YieldsList-at, YieldsList-from_filter, min_from_yields_List}
use Rattle.indexes.specs.Places.{Least}
use Rattle.indexes.specs.Steps.{RepeatsNext, is_repeat}
use Rattle.indexes.proofs.Neighbours.{least_of_neighbours, rows}
use Rattle.indexes.proofs.least_repeat.Goals as goal

pub returns : goal.returns
returns g c o =
    let ps = c.args.places.now in
    let pairs = YieldsList-from_zip
    (YieldsList-at c.zip.ensures.first (YieldsList-from_slice ps cc))
    (YieldsList-at c.zip.ensures.second (YieldsList-from_skip 1 (YieldsList-at c.skip.ensures.source (YieldsList-from_slice ps cc)) c.skip.ensures.count)) in
    let is : c.min.result ≡ reduce min (rows g.N.Ord.cmp ps (drop 1 ps)) =
    sym (option_map_id _) ∙ min_from_yields_List _ c.min.result c.min.ensures.ran
    (YieldsList-from_map _ (λ p. p.1.row)
    (YieldsList-at c.map.ensures.source
    (YieldsList-from_filter _ (λ p. is_repeat g.N.Ord.cmp p.0 p.1) (YieldsList-at c.filter.ensures.source pairs) c.filter.ensures.closure (λ x r q k. search (rules, tests))))
    c.map.ensures.closure (λ x r q k. search (rules, tests))) in
    subst (Least (RepeatsNext o ps (length ps))) (sym is) (least_of_neighbours o ps)
