-- Lists: what holds at each place, and filters.
use Rattle.std.proofs.Common.{◌≡◌, ℕ, zero, suc, ◌<◌, Bool, true, false, cond, List, [], ◌∷◌, ◌++◌, map, length, get_or, take, drop, filter, Ordering, Less, refl, ap, ◌∙◌, arith}
use Rattle.std.specs.List.Sorted.{IsStrictlySortedBy}
use Rattle.std.specs.List.{AllByRecursion}
use Rattle.std.proofs.ByRecursion.{All-append, all_kept_by, All-map, All-take}
use Rattle.std.proofs.lemmas.Bool.{cond-false, cond-true}

pub all_places : {X : Type 0} (P : X → Type 0) (xs : List X) → ((k : ℕ) (d : X) → k < length xs → P (get_or xs k d)) → AllByRecursion P xs
all_places P [] h = tt
all_places P (x ∷ xs) h = (h 0 x (omega arith), all_places P xs (λ k d l. h (suc k) d (omega arith)))

pub kept_none : {X : Type 0} (p : X → Bool) (xs : List X) → AllByRecursion (λ x. p x ≡ false) xs → filter p xs ≡ []
kept_none p [] h = refl
kept_none p (x ∷ xs) h = cond-false (p x) _ _ h.0 ∙ kept_none p xs h.1

pub kept_all : {X : Type 0} (p : X → Bool) (xs : List X) → AllByRecursion (λ x. p x ≡ true) xs → filter p xs ≡ xs
kept_all p [] h = refl
kept_all p (x ∷ xs) h = cond-true (p x) _ _ h.0 ∙ ap (λ r. x ∷ r) (kept_all p xs h.1)

pub kept_alike : {X : Type 0} (p q : X → Bool) (xs : List X) → AllByRecursion (λ x. p x ≡ q x) xs → filter p xs ≡ filter q xs
kept_alike p q [] h = refl
kept_alike p q (x ∷ xs) h = λ i. cond (h.0 i) (x ∷ kept_alike p q xs h.1 i) (kept_alike p q xs h.1 i)

pub sorted_drop : {K : Type 0} (c : K → K → Ordering) (n : ℕ) (ks : List K) → IsStrictlySortedBy c ks → IsStrictlySortedBy c (drop n ks)
unfolding IsStrictlySortedBy
sorted_drop c zero ks h = h
sorted_drop c (suc n) [] h = h
sorted_drop c (suc n) (k ∷ ks) h = sorted_drop c n ks h.1

pub sorted_take : {K : Type 0} (c : K → K → Ordering) (n : ℕ) (ks : List K) → IsStrictlySortedBy c ks → IsStrictlySortedBy c (take n ks)
unfolding IsStrictlySortedBy
sorted_take c zero ks h = tt
sorted_take c (suc n) [] h = tt
sorted_take c (suc n) (k ∷ ks) h = (All-take (λ y. c k y ≡ Less) n ks h.0, sorted_take c n ks h.1)

pub sorted_append : {K : Type 0} (c : K → K → Ordering) (xs ys : List K) → IsStrictlySortedBy c xs → IsStrictlySortedBy c ys → AllByRecursion (λ x. AllByRecursion (λ y. c x y ≡ Less) ys) xs → IsStrictlySortedBy c (xs ++ ys)
unfolding IsStrictlySortedBy
sorted_append c [] ys p q cross = q
sorted_append c (x ∷ xs) ys p q cross = (All-append (λ y. c x y ≡ Less) xs ys p.0 cross.0, sorted_append c xs ys p.1 q cross.1)

pub all_unmap : {X Y : Type 0} (P : Y → Type 0) (f : X → Y) (xs : List X) → AllByRecursion P (map f xs) → AllByRecursion (λ x. P (f x)) xs
all_unmap P f [] h = tt
all_unmap P f (x ∷ xs) h = (h.0, all_unmap P f xs h.1)

-- what is kept of a list that ascends by a key ascends
pub sorted_kept : {X K : Type 0} (c : K → K → Ordering) (f : X → K) (p : X → Bool) (xs : List X) → IsStrictlySortedBy c (map f xs) → IsStrictlySortedBy c (map f (filter p xs))
unfolding IsStrictlySortedBy
sorted_kept c f p [] h = tt
sorted_kept c f p (x ∷ xs) h =
    go (p x) (sorted_kept c f p xs h.1) (All-map (λ y. c (f x) y ≡ Less) f (filter p xs) (all_kept_by p (λ y. c (f x) (f y) ≡ Less) xs (all_unmap (λ y. c (f x) y ≡ Less) f xs h.0)))
  where
    go : (b : Bool) → IsStrictlySortedBy c (map f (filter p xs)) → AllByRecursion (λ y. c (f x) y ≡ Less) (map f (filter p xs)) → IsStrictlySortedBy c (map f (cond b (x ∷ filter p xs) (filter p xs)))
    go true a above = (above, a)
    go false a above = a

-- where what is kept stood before
pub kept_place : {X : Type 0} (p : X → Bool) (xs : List X) (j : ℕ) (d : X) → j < length (filter p xs) →
    (i : ℕ) × (i < length xs) × (get_or (filter p xs) j d ≡ get_or xs i d) × (p (get_or xs i d) ≡ true)
kept_place p [] j d l = absurd (omega arith)
kept_place p (x ∷ xs) j d l = go (p x) refl j l (kept_place p xs)
  where
    go : (b : Bool) → p x ≡ b → (j : ℕ) → j < length (cond b (x ∷ filter p xs) (filter p xs)) →
        ((j : ℕ) (d : _) → j < length (filter p xs) → (i : ℕ) × (i < length xs) × (get_or (filter p xs) j d ≡ get_or xs i d) × (p (get_or xs i d) ≡ true)) →
        (i : ℕ) × (i < suc (length xs)) × (get_or (cond b (x ∷ filter p xs) (filter p xs)) j d ≡ get_or (x ∷ xs) i d) × (p (get_or (x ∷ xs) i d) ≡ true)
    go true e zero l ih = (0, omega arith, refl, e)
    go true e (suc j) l ih = let h = ih j d (omega arith) in (suc h.0, omega (arith, h.1), h.2, h.3)
    go false e j l ih = let h = ih j d l in (suc h.0, omega (arith, h.1), h.2, h.3)
