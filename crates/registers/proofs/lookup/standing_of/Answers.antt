use Rattle.std.proofs.Common.{rules, sym, ◌∙◌}
use Rattle.std.proofs.lemmas.List.Sorted.{answers_always}
use Rattle.registers.specs.Ids.{by_id}
use Rattle.registers.proofs.Lookups.{standing_found, standing_lost}
use Rattle.registers.proofs.lookup.standing_of.Goals as goal

pub returns-in_err-i : goal.returns-in_err-i
returns-in_err-i g c o up =
    c.from_residual.ensures
    ∙ standing_lost (by_id o) c.args.entries.now up c.args.id c.binary_search_by_key.result
    (c.binary_search_by_key.ensures.position (λ e. e.id) (answers_always _ _ _ (λ f a r q called. search rules)))
    (sym c.in_err-i.was ∙ c.ok.ensures.value)

pub returns : goal.returns
returns g c o up =
    standing_found (by_id o) c.args.entries.now up c.args.id c.binary_search_by_key.result c.binary_search_by_key.ensures.bound
    (c.binary_search_by_key.ensures.position (λ e. e.id) (answers_always _ _ _ (λ f a r q called. search rules)))
    c.in_ok-i.i (sym c.in_ok-i.was ∙ c.ok.ensures.value) c.index-entries-i.result
