use Rattle.std.proofs.Common.{◌≡◌, ap, ◌∙◌, rules, tests}
use Rattle.std.proofs.lemmas.Iterator.{YieldsList-from_slice, YieldsList-from_zip}
use Rattle.std.proofs.lemmas.Iterator.Search.{find_from_yields_List}
use Rattle.std.specs.Option.{option_map}
use Rattle.kinds.specs.Cover.{is_at_fault}
use Rattle.kinds.proofs.Zips.{find_pair}
use Rattle.kinds.proofs.cover.first_fault.Goals as goal

pub returns : goal.returns
returns c =
    let k = c.args.key_flag in
    let ls = c.args.lines.now in
    let ms = c.args.marks.now in
    let found = find_from_yields_List (λ p. is_at_fault k ls ms p.0 p.1) c.find.new.self _ c.find.result c.find.ensures.ran (YieldsList-from_zip (YieldsList-from_slice ls cc) (YieldsList-from_slice ms cc)) (λ x b q d. search (rules, tests)) in
    let numbered : c.map.result ≡ option_map (λ p. p.0.number) (option_map (λ p. (p.0.now, p.1.now)) c.find.result) = search (rules, tests) in
    numbered ∙ (ap (option_map (λ p. p.0.number)) found ∙ find_pair (is_at_fault k ls ms) ls ms)
