-- The comparison finds no fault exactly where flags are true, or where no told field differs.
use Rattle.std.proofs.Common.{◌≡◌, ℕ, Bool, true, false, cond, not, List, [], ◌∷◌, is_some, Some, Decides, Option, refl, ap, ◌∙◌}
use Rattle.std.proofs.lemmas.Bool.{false≢true, true≢false}
use Rattle.std.proofs.lemmas.Bool.Decides.{Decides-at}
use Rattle.fields.specs.declared.flags.KeyFlag.{KeyFlag}
use Rattle.fields.specs.declared.flags.KeyFlag.TheVariants.{NoAmendment, Deletion}
use Rattle.kinds.specs.declared.cover.Cover.{Cover}
use Rattle.kinds.specs.declared.cover.Cover.TheVariants.{By, Steady, Flag}
use Rattle.kinds.specs.declared.cover.Line.{Line}
use Rattle.kinds.specs.Meaning.{Meaning, compares}
use Rattle.kinds.specs.Cover.{EachMark, Tells, TrueFlags, Unchanged, compared, differs_under, first_line, is_changed, is_untrue, line, xor}

-- a test that is false exactly where P holds, of each line and its mark
module _ (p : Line → Bool → Bool) (P : Line → Bool → Type 0) (each : (l : Line) (m : Bool) → Decides (not (p l m)) (P l m)) where
  pub first_decides : (ls : List Line) (ms : List Bool) → Decides (not (is_some (first_line p ls ms))) (EachMark P ls ms)
  first_decides [] ms = (λ _. tt, λ _. refl)
  first_decides (l ∷ ls) [] = (λ _. tt, λ _. refl)
  first_decides (l ∷ ls) (m ∷ ms) = step (p l m) (each l m) (first_decides ls ms)
    where
      step : (b : Bool) → Decides (not b) (P l m) → Decides (not (is_some (first_line p ls ms))) (EachMark P ls ms) →
          Decides (not (is_some (cond b (Some l.number) (first_line p ls ms)))) (P l m × EachMark P ls ms)
      step true here rest = (λ e. absurd (false≢true e), λ h. here.1 h.0)
      step false here rest = (λ e. (here.0 refl, rest.0 e), λ h. rest.1 h.1)

same_or_not : (m d : Bool) → Decides (not (xor m d)) (m ≡ d)
same_or_not true true = (λ _. refl, λ _. refl)
same_or_not true false = (λ e. absurd (false≢true e), λ e. absurd (true≢false e))
same_or_not false true = (λ e. absurd (false≢true e), λ e. absurd (false≢true e))
same_or_not false false = (λ _. refl, λ _. refl)

is_false : (m : Bool) → Decides (not m) (m ≡ false)
is_false true = (λ e. absurd (false≢true e), λ e. absurd (true≢false e))
is_false false = (λ _. refl, λ _. refl)

untrue_line : (ls : List Line) (ms : List Bool) (n : ℕ) (c : Cover) (m : Bool) → Decides (not (is_untrue ls ms (line n c) m)) (Tells ls ms (line n c) m)
untrue_line ls ms n (By f) m = (λ _. tt, λ _. refl)
untrue_line ls ms n Steady m = is_false m
untrue_line ls ms n Flag m = same_or_not m (differs_under n ls ms)

pub true_flags : (ls : List Line) (ms : List Bool) → Decides (not (is_some (compared NoAmendment ls ms))) (TrueFlags ls ms)
true_flags ls ms = first_decides (is_untrue ls ms) (Tells ls ms) (λ l m. untrue_line ls ms l.number l.cover m) ls ms

changed_line : (n : ℕ) (c : Cover) (m : Bool) →
    Decides (not (is_changed (line n c) m)) (elim c [ By f ↦ m ≡ false | Steady ↦ m ≡ false | Flag ↦ Unit {0} ])
changed_line n (By f) m = is_false m
changed_line n Steady m = is_false m
changed_line n Flag m = (λ _. tt, λ _. refl)

pub unchanged : (ls : List Line) (ms : List Bool) → Decides (not (is_some (compared Deletion ls ms))) (Unchanged ls ms)
unchanged ls ms = first_decides is_changed _ (λ l m. changed_line l.number l.cover m) ls ms

-- what a kind's comparison owes, once its answer is the comparison of its table and marks
module _ {R T N K : Type 0} (m : Meaning R T N K) (t : T) (r : R) (answer : Option ℕ) (value : answer ≡ compares m t r) where
  at : (k : KeyFlag) → m.key_flag r ≡ k → answer ≡ compared k m.lines (m.marks t r)
  at k z = value ∙ ap (λ k. compared k m.lines (m.marks t r)) z

  pub amended_compares : m.key_flag r ≡ NoAmendment → Decides (not (is_some answer)) (TrueFlags m.lines (m.marks t r))
  amended_compares z = Decides-at _ _ (ap (λ o. not (is_some o)) (at NoAmendment z)) (true_flags m.lines (m.marks t r))

  -- and the marks tell whether all told fields are equal
  pub deleted_compares : (Unchanged m.lines (m.marks t r) → t ≡ m.told r) → (t ≡ m.told r → Unchanged m.lines (m.marks t r)) →
      m.key_flag r ≡ Deletion → Decides (not (is_some answer)) (t ≡ m.told r)
  deleted_compares there back z =
      let same = Decides-at _ _ (ap (λ o. not (is_some o)) (at Deletion z)) (unchanged m.lines (m.marks t r)) in
      (λ e. there (same.0 e), λ e. same.1 (back e))
