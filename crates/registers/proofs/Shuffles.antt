-- Shuffles of lists that are put together, and of what a function makes of each element.
use Rattle.std.proofs.Common.{◌≡◌, ℕ, ◌<◌, List, [], ◌∷◌, ◌++◌, map, length, get_or, set, sym, refl, ap, ◌∙◌, subst, arith}
use Rattle.std.specs.List.Sorted.{IsPermutation}
use Rattle.std.specs.List.{swap}
use Rattle.std.proofs.lemmas.List.{append-nil, get_or-map, length-map, map-set}
use Rattle.std.proofs.lemmas.List.Sorted.{IsPermutation-cons, IsPermutation-keeps, IsPermutation-refl, IsPermutation-swap, IsPermutation-trans}

-- the first element past others
pub middle : {X : Type 0} (x : X) (ys xs : List X) → IsPermutation (x ∷ (ys ++ xs)) (ys ++ (x ∷ xs))
middle x [] xs = IsPermutation-refl (x ∷ xs)
middle x (y ∷ ys) xs =
    IsPermutation-trans (x ∷ (y ∷ (ys ++ xs))) (y ∷ (x ∷ (ys ++ xs))) (y ∷ (ys ++ (x ∷ xs)))
    (IsPermutation-swap (x ∷ (y ∷ (ys ++ xs))) (y ∷ (x ∷ (ys ++ xs))) 0 1 (omega arith) (omega arith) refl)
    (IsPermutation-cons y (x ∷ (ys ++ xs)) (ys ++ (x ∷ xs)) (middle x ys xs))

pub shuffled_after : {X : Type 0} (xs ys zs : List X) → IsPermutation ys zs → IsPermutation (xs ++ ys) (xs ++ zs)
shuffled_after [] ys zs h = h
shuffled_after (x ∷ xs) ys zs h = IsPermutation-cons x (xs ++ ys) (xs ++ zs) (shuffled_after xs ys zs h)

pub shuffled_turn : {X : Type 0} (xs ys : List X) → IsPermutation (xs ++ ys) (ys ++ xs)
shuffled_turn [] ys = subst (λ w. IsPermutation ys w) (sym (append-nil ys)) (IsPermutation-refl ys)
shuffled_turn (x ∷ xs) ys =
    IsPermutation-trans (x ∷ (xs ++ ys)) (x ∷ (ys ++ xs)) (ys ++ (x ∷ xs)) (IsPermutation-cons x (xs ++ ys) (ys ++ xs) (shuffled_turn xs ys)) (middle x ys xs)

pub shuffled_before : {X : Type 0} (xs ys zs : List X) → IsPermutation xs ys → IsPermutation (xs ++ zs) (ys ++ zs)
shuffled_before xs ys zs h =
    IsPermutation-trans (xs ++ zs) (zs ++ xs) (ys ++ zs) (shuffled_turn xs zs)
    (IsPermutation-trans (zs ++ xs) (zs ++ ys) (ys ++ zs) (shuffled_after zs xs ys h) (shuffled_turn zs ys))

map_exchanged : {X Y : Type 0} (f : X → Y) (l : List X) (i j : ℕ) → i < length l → j < length l → map f (swap l i j) ≡ swap (map f l) i j
map_exchanged f [] i j p q = refl
map_exchanged f (d ∷ ys) i j p q =
    let l = d ∷ ys in
    map-set f (set l i (get_or l j d)) j (get_or l i d)
    ∙ (ap (λ w. set w j (f (get_or l i d))) (map-set f l i (get_or l j d))
    ∙ (λ t. set (set (map f l) i (sym (get_or-map f l j d (f d) q) t)) j (sym (get_or-map f l i d (f d) p) t)))

pub shuffled_map : {X Y : Type 0} (f : X → Y) (xs ys : List X) → IsPermutation xs ys → IsPermutation (map f xs) (map f ys)
shuffled_map f xs ys h =
    IsPermutation-keeps xs (λ l. IsPermutation (map f xs) (map f l)) (IsPermutation-refl (map f xs))
    (λ l i j p q s.
    IsPermutation-trans (map f xs) (map f l) (map f (swap l i j)) s
    (IsPermutation-swap (map f l) (map f (swap l i j)) i j (subst (λ n. i < n) (sym (length-map l f)) p) (subst (λ n. j < n) (sym (length-map l f)) q) (map_exchanged f l i j p q)))
    ys h
