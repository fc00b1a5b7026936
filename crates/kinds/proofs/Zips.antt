-- The walks along lines and marks, as walks along their pairs.
use Rattle.std.proofs.Common.{◌≡◌, ℕ, Bool, true, false, cond, ◌&&◌, ◌||◌, List, [], ◌∷◌, Some, refl, ap}
use Rattle.std.specs.List.{find, list_any, zip}
use Rattle.std.specs.Option.{option_map}
use Rattle.kinds.specs.declared.cover.Line.{Line}
use Rattle.kinds.specs.Cover.{covered_by, differs_under, first_line}

pub any_pair : (flag : ℕ) (ls : List Line) (ms : List Bool) → list_any (λ p. covered_by flag p.0.cover && p.1) (zip ls ms) ≡ differs_under flag ls ms
any_pair flag [] ms = refl
any_pair flag (l ∷ ls) [] = refl
any_pair flag (l ∷ ls) (m ∷ ms) = ap (λ t. (covered_by flag l.cover && m) || t) (any_pair flag ls ms)

pub find_pair : (t : Line → Bool → Bool) (ls : List Line) (ms : List Bool) → option_map (λ p. p.0.number) (find (λ p. t p.0 p.1) (zip ls ms)) ≡ first_line t ls ms
find_pair t [] ms = refl
find_pair t (l ∷ ls) [] = refl
find_pair t (l ∷ ls) (m ∷ ms) = at (t l m) (find_pair t ls ms)
  where
    at : (b : Bool) → option_map (λ p. p.0.number) (find (λ p. t p.0 p.1) (zip ls ms)) ≡ first_line t ls ms →
        option_map (λ p. p.0.number) (cond b (Some (l, m)) (find (λ p. t p.0 p.1) (zip ls ms))) ≡ cond b (Some l.number) (first_line t ls ms)
    at true rest = refl
    at false rest = rest
