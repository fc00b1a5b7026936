-- The lowest number among entries: entries that fail the test do not count, and in ascending entries it is the first.
use Rattle.std.proofs.Common.{◌≡◌, ℕ, zero, suc, ◌<◌, Bool, true, false, cond, List, [], ◌∷◌, ◌++◌, length, get_or, Some, None, Option, Ordering, sym, refl, ap, ◌∙◌, subst, arith}
use Rattle.std.specs.Ordering.{is_lt}
use Rattle.std.specs.List.{AllByRecursion}
use Rattle.std.proofs.lemmas.Bool.{cond-true, cond-false}
use Rattle.files.proofs.Firsts.{some_none}
use Rattle.registers.specs.declared.entry.Entry.{Entry}
use Rattle.registers.specs.Admission.{lower, lowest}

module _ {N T : Type 0} (cmp : N → N → Ordering) (p : Entry N T → Bool) where
  pub lowest_past : (bs xs : List (Entry N T)) → AllByRecursion (λ e. p e ≡ false) bs → lowest cmp p (bs ++ xs) ≡ lowest cmp p xs
  lowest_past [] xs h = refl
  lowest_past (a ∷ bs) xs h = cond-false (p a) _ _ h.0 ∙ lowest_past bs xs h.1

  pub lowest_none : (bs : List (Entry N T)) → AllByRecursion (λ e. p e ≡ false) bs → lowest cmp p bs ≡ None
  lowest_none [] h = refl
  lowest_none (a ∷ bs) h = cond-false (p a) _ _ h.0 ∙ lowest_none bs h.1

  pub lowest_until : (xs cs : List (Entry N T)) → AllByRecursion (λ e. p e ≡ false) cs → lowest cmp p (xs ++ cs) ≡ lowest cmp p xs
  lowest_until [] cs h = lowest_none cs h
  lowest_until (x ∷ xs) cs h = λ i. cond (p x) (Some (lower cmp x.id.number (lowest_until xs cs h i))) (lowest_until xs cs h i)

  -- what holds of each number that passes holds of the lowest
  pub lowest_has : (Q : N → Type 0) (es : List (Entry N T)) → AllByRecursion (λ e. p e ≡ true → Q e.id.number) es → (k : N) → lowest cmp p es ≡ Some k → Q k
  lowest_has Q [] h k e = absurd (some_none k (sym e))
  lowest_has Q (x ∷ es) h k e = go (p x) refl (lowest cmp p es) refl (lowest_has Q es h.1) e
    where
      pick : (b : Bool) (n j : N) → Q n → Q j → Q (cond b j n)
      pick true n j a c = c
      pick false n j a c = a

      go : (b : Bool) → p x ≡ b → (o : Option N) → lowest cmp p es ≡ o → ((j : N) → lowest cmp p es ≡ Some j → Q j) →
          cond b (Some (lower cmp x.id.number o)) o ≡ Some k → Q k
      go true q None f ih e = let same : x.id.number ≡ k = cc in subst Q same (h.0 q)
      go true q (Some j) f ih e =
          let same : cond (is_lt (cmp j x.id.number)) j x.id.number ≡ k = cc in
          subst Q same (pick (is_lt (cmp j x.id.number)) x.id.number j (h.0 q) (ih j f))
      go false q o f ih e = ih k (f ∙ e)

  pub lowest_at : (es : List (Entry N T)) (i : ℕ) (d : Entry N T) → i < length es → p (get_or es i d) ≡ true →
      ((k : ℕ) → k < i → p (get_or es k d) ≡ false) →
      ((k : ℕ) → i < k → k < length es → is_lt (cmp (get_or es k d).id.number (get_or es i d).id.number) ≡ false) →
      lowest cmp p es ≡ Some (get_or es i d).id.number
  lowest_at [] i d l e before after = absurd (omega arith)
  lowest_at (x ∷ es) zero d l e before after =
      cond-true (p x) _ _ e ∙ ap Some (go (lowest cmp p es) refl)
    where
      later : (es : List (Entry N T)) → ((k : ℕ) → k < length es → is_lt (cmp (get_or es k d).id.number x.id.number) ≡ false) →
          AllByRecursion (λ e. p e ≡ true → is_lt (cmp e.id.number x.id.number) ≡ false) es
      later [] h = tt
      later (y ∷ ys) h = (λ _. h 0 (omega arith), later ys (λ k q. h (suc k) (omega arith)))

      go : (o : Option N) → lowest cmp p es ≡ o → lower cmp x.id.number o ≡ x.id.number
      go None f = refl
      go (Some j) f =
          cond-false (is_lt (cmp j x.id.number)) j x.id.number
          (lowest_has (λ n. is_lt (cmp n x.id.number) ≡ false) es (later es (λ k q. after (suc k) (omega arith) (omega arith))) j f)
  lowest_at (x ∷ es) (suc i) d l e before after =
      cond-false (p x) _ _ (before 0 (omega arith))
      ∙ lowest_at es i d (omega arith) e (λ k q. before (suc k) (omega arith)) (λ k q u. after (suc k) (omega arith) (omega arith))
