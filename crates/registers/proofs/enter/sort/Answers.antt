use Rattle.std.proofs.Common.{rules, ◌≡◌}
use Rattle.std.specs.Ordering.{is_lt}
use Rattle.std.proofs.lemmas.Fn.{always_returns_same}
use Rattle.registers.specs.Ids.{by_id, id_cmp}
use Rattle.registers.proofs.Lookups.{rising}
use Rattle.registers.proofs.enter.sort.Goals as goal

pub returns-clause-single : goal.returns-clause-single
returns-clause-single g c o =
    let P = id_cmp g.N.Ord.cmp in
    rising (by_id o) c.sort_unstable.new.self c.is_sorted_by.result
    (c.is_sorted_by.ensures.cases (λ x y. is_lt (P x.id y.id)) (always_returns_same _ (λ a r. r ≡ is_lt (P a.0.now.id a.1.0.now.id)) _ (λ a r q k. search rules)))
