-- The least row among the places that follow the one just before them.
use Rattle.std.proofs.Common.{◌≡◌, ℕ, zero, suc, ◌-◌, ◌<◌, ◌≤◌, min, Bool, true, false, cond, ltb, ◌⊎◌, List, [], ◌∷◌, map, length, get_or, drop, Ordering, Less, Equal, Greater, sym, refl, ap, ◌∙◌, subst, inl, inr, arith}
use Rattle.std.specs.Cmp.{IsTotalOrder}
use Rattle.std.specs.List.{filter, fold, reduce, zip}
use Rattle.std.specs.Ordering.{is_eq}
use Rattle.std.proofs.lemmas.Bool.{and_from, and_parts, false≢true, cases_lt, lt-ltb, ltb-true}
use Rattle.indexes.specs.declared.Place.{Place}
use Rattle.indexes.specs.Places.{Follows, Least}
use Rattle.indexes.specs.Steps.{RepeatsNext, is_repeat}
use Rattle.indexes.proofs.Leasts.{least_same}

equal_is : (r : Ordering) → is_eq r ≡ true → r ≡ Equal
equal_is Less e = absurd (false≢true e)
equal_is Equal e = refl
equal_is Greater e = absurd (false≢true e)

-- of places side by side, those where the second repeats the first
abbrev repeated : {N : Type 0} → (N → N → Ordering) → List (Place N) → List (Place N) → List (Place N × Place N)
repeated R ps qs = filter (λ p. is_repeat R p.0 p.1) (zip ps qs)

-- their rows
abbrev rows_of : {N : Type 0} → List (Place N × Place N) → List ℕ
rows_of xs = map (λ p. p.1.row) xs

abbrev pub rows : {N : Type 0} → (N → N → Ordering) → List (Place N) → List (Place N) → List ℕ
rows R ps qs = rows_of (repeated R ps qs)

module _ {N : Type 0} {R : N → N → Ordering} (o : IsTotalOrder R) where
  abbrev Next : List (Place N) → ℕ → Type 0
  Next ps = RepeatsNext o ps (length ps)

  follows : (p q : Place N) → is_repeat R p q ≡ true → Follows o p q
  follows p q e = let both = and_parts (ltb p.row q.row) (is_eq (R p.number q.number)) e in (equal_is _ both.1, ltb-true _ _ both.0)

  repeats : (p q : Place N) → Follows o p q → is_repeat R p q ≡ true
  repeats p q f = and_from _ _ (lt-ltb _ _ f.1) (ap is_eq f.0)

  -- the places at i and j stand in such a way that the second repeats the first, in row k
  abbrev At : List (Place N) → ℕ → ℕ → ℕ → Type 0
  At ps k i j = (d : Place N) → Follows o (get_or ps i d) (get_or ps j d) × ((get_or ps j d).row ≡ k)

  module _ (p q : Place N) (qs : List (Place N)) where
    here : Follows o p q → Next (p ∷ (q ∷ qs)) q.row
    here f = (1, omega arith, omega arith, λ d. (f, refl))

    further : (k : ℕ) → Next (q ∷ qs) k → Next (p ∷ (q ∷ qs)) k
    further k h = go h.0 h.1 h.2 h.3
      where
        go : (i : ℕ) → 0 < i → i < length (q ∷ qs) → At (q ∷ qs) k (i - 1) i → Next (p ∷ (q ∷ qs)) k
        go zero from to f = absurd (omega arith)
        go (suc j) from to f =
            let e : suc j - 1 ≡ j = omega arith in
            let g : suc j ≡ suc (suc j) - 1 = omega arith in
            (suc (suc j), omega arith, omega arith, subst (λ i. At (p ∷ (q ∷ qs)) k i (suc (suc j))) g (subst (λ i. At (q ∷ qs) k i (suc j)) e f))

    cases : (k : ℕ) → Next (p ∷ (q ∷ qs)) k → Next (q ∷ qs) k ⊎ (Follows o p q × (q.row ≡ k))
    cases k h = go h.0 h.1 h.2 h.3
      where
        go : (i : ℕ) → 0 < i → i < length (p ∷ (q ∷ qs)) → At (p ∷ (q ∷ qs)) k (i - 1) i → Next (q ∷ qs) k ⊎ (Follows o p q × (q.row ≡ k))
        go zero from to f = absurd (omega arith)
        go (suc zero) from to f = inr (f p)
        go (suc (suc j)) from to f =
            let e : suc (suc j) - 1 ≡ suc j = omega arith in
            let g : j ≡ suc j - 1 = omega arith in
            inl (suc j, omega arith, omega arith, subst (λ i. At (q ∷ qs) k i (suc j)) g (subst (λ i. At (p ∷ (q ∷ qs)) k i (suc (suc j))) e f))

  -- m is the least of a number and of these rows
  abbrev IsLeast : List (Place N) → ℕ → ℕ → Type 0
  IsLeast ps a m = ((m ≡ a) ⊎ Next ps m) × (m ≤ a) × ((k : ℕ) → Next ps k → m ≤ k)

  least_with : (a : ℕ) (p : Place N) (ps : List (Place N)) → IsLeast (p ∷ ps) a (fold min a (rows R (p ∷ ps) ps))
  least_with a p [] = (inl refl, omega arith, λ k h. absurd (omega (arith, h.1, h.2)))
  least_with a p (q ∷ qs) = go (λ b. least_with b q qs) (is_repeat R p q) refl
    where
      go : ((b : ℕ) → IsLeast (q ∷ qs) b (fold min b (rows R (q ∷ qs) qs))) → (b : Bool) → is_repeat R p q ≡ b → IsLeast (p ∷ (q ∷ qs)) a (fold min a (rows_of (cond b ((p, q) ∷ repeated R (q ∷ qs) qs) (repeated R (q ∷ qs) qs))))
      go less true e =
          let l = less (min a q.row) in
          let m = fold min (min a q.row) (rows R (q ∷ qs) qs) in
          let f = follows p q e in
          let one : (m ≡ a) ⊎ Next (p ∷ (q ∷ qs)) m =
          elim l.0 [
            | inl x ↦
                elim (cases_lt a q.row) [
                  | inl lt ↦ inl (omega arith)
                  | inr ge ↦ inr (let z : q.row ≡ m = omega arith in subst (Next (p ∷ (q ∷ qs))) z (here p q qs f))
                ]
            | inr n ↦ inr (further p q qs m n)
          ] in
          (one, omega (arith, l.1), λ k h. elim (cases p q qs k h) [ inl n ↦ l.2 k n | inr x ↦ omega (arith, l.1, x.1) ])
      go less false e =
          let l = less a in
          let m = fold min a (rows R (q ∷ qs) qs) in
          let one : (m ≡ a) ⊎ Next (p ∷ (q ∷ qs)) m = elim l.0 [ inl x ↦ inl x | inr n ↦ inr (further p q qs m n) ] in
          (one, l.1, λ k h. elim (cases p q qs k h) [ inl n ↦ l.2 k n | inr x ↦ absurd (false≢true (sym e ∙ repeats p q x.0)) ])

  least_below : (p : Place N) (ps : List (Place N)) → Least (Next (p ∷ ps)) (reduce min (rows R (p ∷ ps) ps))
  least_below p [] = λ k h. omega (arith, h.1, h.2)
  least_below p (q ∷ qs) = go (least_below q qs) (is_repeat R p q) refl
    where
      go : Least (Next (q ∷ qs)) (reduce min (rows R (q ∷ qs) qs)) → (b : Bool) → is_repeat R p q ≡ b → Least (Next (p ∷ (q ∷ qs))) (reduce min (rows_of (cond b ((p, q) ∷ repeated R (q ∷ qs) qs) (repeated R (q ∷ qs) qs))))
      go less true e =
          let l = least_with q.row q qs in
          let m = fold min q.row (rows R (q ∷ qs) qs) in
          let one : Next (p ∷ (q ∷ qs)) m =
          elim l.0 [
            | inl x ↦ subst (Next (p ∷ (q ∷ qs))) (sym x) (here p q qs (follows p q e))
            | inr n ↦ further p q qs m n
          ] in
          (one, λ k h. elim (cases p q qs k h) [ inl n ↦ l.2 k n | inr x ↦ omega (arith, l.1, x.1) ])
      go less false e =
          least_same (Next (q ∷ qs)) (Next (p ∷ (q ∷ qs))) (further p q qs)
          (λ k h. elim (cases p q qs k h) [ inl n ↦ n | inr x ↦ absurd (false≢true (sym e ∙ repeats p q x.0)) ])
          (reduce min (rows R (q ∷ qs) qs)) less

  pub least_of_neighbours : (ps : List (Place N)) → Least (RepeatsNext o ps (length ps)) (reduce min (rows R ps (drop 1 ps)))
  least_of_neighbours [] = λ k h. omega (arith, h.2)
  least_of_neighbours (p ∷ ps) = least_below p ps
