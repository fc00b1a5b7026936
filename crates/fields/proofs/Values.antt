-- How the value of a field's bytes grows along them.
use Rattle.std.proofs.Common.{◌≡◌, ℕ, ◌+◌, ◌-◌, ◌*◌, ◌<◌, ◌≤◌, List, [], ◌∷◌, ◌++◌, ◌&&◌, length, get_or, take, refl, ap, ◌∙◌, arith}
use Rattle.std.proofs.lemmas.List.{take_more, length-take}
use Rattle.std.specs.List.{list_all}
use Rattle.fields.specs.declared.class.Class.{Class}
use Rattle.fields.specs.Bytes.{columns, every, has, value, value_after}

value_after_push : (n : ℕ) (bs : List ℕ) (b : ℕ) → value_after n (bs ++ b ∷ []) ≡ value_after n bs * 10 + (b - 48)
value_after_push n [] b = refl
value_after_push n (c ∷ bs) b = value_after_push (n * 10 + (c - 48)) bs b

pub value_none : (bs : List ℕ) → value (take 0 bs) ≡ 0
unfolding value
value_none bs = refl

pub value_more : (bs : List ℕ) (i : ℕ) → i < length bs → value (take (i + 1) bs) ≡ value (take i bs) * 10 + (get_or bs i 0 - 48)
unfolding value
value_more bs i h = ap (value_after 0) (take_more bs i 0 h) ∙ value_after_push 0 (take i bs) (get_or bs i 0)

pub columns_short : (first last : ℕ) (row : List ℕ) → length (columns first last row) ≤ last + 1 - first
unfolding columns
columns_short first last row = simp length-take (omega arith)

pub every_all : (k : Class) (bs : List ℕ) → every k bs ≡ list_all (has k) bs
every_all k [] = refl
every_all k (b ∷ bs) = ap (λ t. has k b && t) (every_all k bs)
