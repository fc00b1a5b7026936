-- The first fault by what is known of each index.
use Rattle.std.proofs.Common.{◌≡◌, ℕ, zero, suc, ◌<◌, Some, None, Option, sym, refl, ap, ◌∙◌, subst, ⊎_elim, arith, MatchOption}
use Rattle.std.proofs.lemmas.Bool.{cases_order}
use Rattle.files.specs.First.{at_index, first, or_else}

pub some_none : {A : Type 0} (x : A) → Some x ≡ None → ⊥
some_none x e = let z : ◌≡◌ {A = ℕ} 0 1 = cc in omega arith

module _ {A : Type 0} (f : ℕ → Option A) where
  pub first_none : (n : ℕ) → ((k : ℕ) → k < n → f k ≡ None) → first f n ≡ None
  first_none zero h = refl
  first_none (suc n) h =
      (λ i. or_else (first_none n (λ k l. h k (omega arith)) i) (at_index n (h n (omega arith) i)))

  -- what the first fault says of each index
  pub first_says : (n : ℕ) → MatchOption (first f n) ((k : ℕ) → k < n → f k ≡ None) (λ p. (p.0 < n) × (f p.0 ≡ Some p.1) × ((j : ℕ) → j < p.0 → f j ≡ None))
  first_says zero = λ k l. absurd (omega arith)
  first_says (suc n) = go (first f n) (f n) refl (first_says n)
    where
      go : (a : Option (ℕ × A)) (b : Option A) → f n ≡ b → MatchOption a ((k : ℕ) → k < n → f k ≡ None) (λ p. (p.0 < n) × (f p.0 ≡ Some p.1) × ((j : ℕ) → j < p.0 → f j ≡ None)) →
          MatchOption (or_else a (at_index n b)) ((k : ℕ) → k < suc n → f k ≡ None) (λ p. (p.0 < suc n) × (f p.0 ≡ Some p.1) × ((j : ℕ) → j < p.0 → f j ≡ None))
      go (Some p) b q h = (omega (arith, h.0), h.1, h.2)
      go None (Some y) q h = (omega arith, q, h)
      go None None q h = λ k l. ⊎_elim (λ z. ap f z ∙ q) (⊎_elim (h k) (λ z. absurd (omega arith))) (cases_order k n)

  pub none_first : (n : ℕ) → first f n ≡ None → (k : ℕ) → k < n → f k ≡ None
  none_first n e = subst (λ o. MatchOption o ((k : ℕ) → k < n → f k ≡ None) (λ p. (p.0 < n) × (f p.0 ≡ Some p.1) × ((j : ℕ) → j < p.0 → f j ≡ None))) e (first_says n)

  pub first_some : (n k : ℕ) (x : A) → k < n → f k ≡ Some x → ((j : ℕ) → j < k → f j ≡ None) → first f n ≡ Some (k, x)
  first_some zero k x l e h = absurd (omega arith)
  first_some (suc n) k x l e h = go (first_some n k x)
    where
      here : k ≡ n → or_else (first f n) (at_index n (f n)) ≡ Some (k, x)
      here z =
          (λ i. or_else (first_none n (λ j q. h j (subst (λ w. j < w) (sym z) q)) i) (at_index n (f n)))
          ∙ (ap (λ w. at_index w (f w)) (sym z) ∙ ap (at_index k) e)

      go : (k < n → f k ≡ Some x → ((j : ℕ) → j < k → f j ≡ None) → first f n ≡ Some (k, x)) → or_else (first f n) (at_index n (f n)) ≡ Some (k, x)
      go ih = ⊎_elim here (⊎_elim (λ z. ap (λ o. or_else o (at_index n (f n))) (ih z e h)) (λ z. absurd (omega arith))) (cases_order k n)
