-- In entries that ascend by their ids, a binary search finds what stands under an id.
use Rattle.std.proofs.Common.{◌≡◌, ℕ, zero, suc, ◌+◌, ◌<◌, Bool, true, false, cond, List, [], ◌∷◌, length, get_or, Some, None, Ok, Err, Result, Ordering, Less, Equal, Greater, sym, refl, ap, ◌∙◌, subst, ⊎_elim, arith, MatchBool}
use Rattle.std.specs.Cmp.{IsTotalOrder, alike_right}
use Rattle.std.specs.Ordering.{is_eq, is_lt, ordering_reverse}
use Rattle.std.specs.List.{AllByRecursion, IsAllAdjacentAnswer}
use Rattle.std.specs.List.Sorted.{IsBinarySearchResult, IsPartitionPoint, IsSearchInRange, IsSortedWithin, IsStrictlySortedBy}
use Rattle.std.specs.Result.{result_ok}
use Rattle.std.proofs.lemmas.List.Sorted.{searchable_from_sorted}
use Rattle.std.proofs.lemmas.Map.Keys.{Less-from_sorted, sorted_from_all_adjacent}
use Rattle.std.proofs.lemmas.List.{get_or-map, length-map}
use Rattle.std.proofs.lemmas.Bool.{cases_lt, false≢true, true≢false}
use Rattle.registers.specs.declared.entry.Entry.{Entry}
use Rattle.registers.specs.declared.entry.Id.{Id}
use Rattle.registers.specs.Entries.{ids, standing}

module _ {N : Type 0} {P : Id N → Id N → Ordering} (o : IsTotalOrder P) where
  pub sorted_head : (x : Id N) (xs : List (Id N)) → IsStrictlySortedBy P (x ∷ xs) → AllByRecursion (λ y. P x y ≡ Less) xs
  unfolding IsStrictlySortedBy
  sorted_head x xs s = s.0

  pub sorted_tail : (x : Id N) (xs : List (Id N)) → IsStrictlySortedBy P (x ∷ xs) → IsStrictlySortedBy P xs
  unfolding IsStrictlySortedBy
  sorted_tail x xs s = s.1

less_is : (o : Ordering) → is_lt o ≡ true → o ≡ Less
less_is Less e = refl
less_is Equal e = absurd (false≢true e)
less_is Greater e = absurd (false≢true e)

pub none_ascend : {N : Type 0} (P : Id N → Id N → Ordering) → IsStrictlySortedBy P []
unfolding IsStrictlySortedBy
none_ascend P = tt

module _ {N T : Type 0} {P : Id N → Id N → Ordering} (o : IsTotalOrder P) where
  -- an earlier entry's id is below a later one's
  pub below : (es : List (Entry N T)) → IsStrictlySortedBy P (ids es) → (i j : ℕ) (d : Entry N T) → i < j → j < length es → P (get_or es i d).id (get_or es j d).id ≡ Less
  below es up i j d l h =
      let n : length (ids es) ≡ length es = length-map es (λ e. e.id) in
      let k : j < length (ids es) = omega (arith, n) in
      let a = get_or-map (λ e. e.id) es i d d.id (omega arith) in
      let b = get_or-map (λ e. e.id) es j d d.id h in
      (λ t. P (sym a t) (sym b t)) ∙ Less-from_sorted P (ids es) i j d.id up l k

  pub standing_at : (es : List (Entry N T)) → IsStrictlySortedBy P (ids es) → (k : ℕ) (i : Id N) (d : Entry N T) → k < length es → P (get_or es k d).id i ≡ Equal →
      standing P es i ≡ Some (get_or es k d).standing
  standing_at [] up k i d l e = absurd (omega arith)
  standing_at (x ∷ es) up zero i d l e = ap (λ r. cond (is_eq r) (Some x.standing) (standing P es i)) e
  standing_at (x ∷ es) up (suc k) i d l e =
      let less : P x.id i ≡ Less = sym (alike_right o (get_or es k d).id i x.id e) ∙ below (x ∷ es) up 0 (suc k) d (omega arith) l in
      ap (λ r. cond (is_eq r) (Some x.standing) (standing P es i)) less ∙ standing_at es (sorted_tail o x.id (ids es) up) k i d (omega arith) e

  pub standing_none : (es : List (Entry N T)) (i : Id N) → ((k : ℕ) (d : Entry N T) → k < length es → is_eq (P (get_or es k d).id i) ≡ false) → standing P es i ≡ None
  standing_none [] i h = refl
  standing_none (x ∷ es) i h =
      ap (λ b. cond b (Some x.standing) (standing P es i)) (h 0 x (omega arith)) ∙ standing_none es i (λ k d l. h (suc k) d (omega arith))

  pub ascends : (es : List (Entry N T)) → IsStrictlySortedBy P (ids es) → IsSortedWithin (λ a b. is_lt (P a.id b.id)) es 0 (length es)
  ascends es up k d z l = ap is_lt (o.antisymm (get_or es (k + 1) d).id (get_or es k d).id ∙ ap ordering_reverse (below es up k (k + 1) d (omega arith) l))

  pub standing_missed : (es : List (Entry N T)) → IsStrictlySortedBy P (ids es) → (i : Id N) (at : ℕ) →
      IsPartitionPoint (λ e. P e.id i ≡ Less) (λ e. P e.id i ≡ Greater) es at → standing P es i ≡ None
  standing_missed es up i at parted =
      standing_none es i
      (λ k d l. ⊎_elim (λ z. ap is_eq (parted.0 k d (omega arith) z)) (λ z. ap is_eq (parted.1 k d z l)) (cases_lt k at))

  -- what stands at the place that a search found
  pub standing_found : (es : List (Entry N T)) → IsStrictlySortedBy P (ids es) → (i : Id N) (r : Result ℕ ℕ) → IsSearchInRange r (length es) → IsBinarySearchResult (λ e. P e.id i) es r →
      (k : ℕ) → Some k ≡ result_ok r → (d : Entry N T) → Some (get_or es k d).standing ≡ standing P es i
  standing_found es up i (Ok j) l h k e d =
      let same : j ≡ k = cc in
      sym (subst (λ n. standing P es i ≡ Some (get_or es n d).standing) same (standing_at es up j i d l (h d)))
  standing_found es up i (Err j) l h k e d = cc

  -- nothing stands where it found none
  pub standing_lost : (es : List (Entry N T)) → IsStrictlySortedBy P (ids es) → (i : Id N) (r : Result ℕ ℕ) → IsBinarySearchResult (λ e. P e.id i) es r → None ≡ result_ok r → None ≡ standing P es i
  standing_lost es up i (Ok j) h e = cc
  standing_lost es up i (Err j) h e = sym (standing_missed es up i j (h (searchable_from_sorted o (λ e. e.id) es i (ascends es up))))

  -- each id is below the next, or one is not
  pub rising : (es : List (Entry N T)) (r : Bool) → IsAllAdjacentAnswer (λ x y b. b ≡ is_lt (P x.id y.id)) es r →
      MatchBool r (IsStrictlySortedBy P (ids es)) (IsStrictlySortedBy P (ids es) → ⊥)
  rising [] true h = none_ascend P
  rising (e ∷ es) true h =
      sorted_from_all_adjacent o (ids (e ∷ es)) e.id
      (λ k l.
      let n : length (ids (e ∷ es)) ≡ length (e ∷ es) = length-map (e ∷ es) (λ x. x.id) in
      let at : k + 1 < length (e ∷ es) = omega (arith, n) in
      (λ t. P (get_or-map (λ x. x.id) (e ∷ es) k e e.id (omega arith) t) (get_or-map (λ x. x.id) (e ∷ es) (k + 1) e e.id at t))
      ∙ less_is _ (sym (h k e at)))
  rising [] false h = absurd (omega (arith, h.1))
  rising (e ∷ es) false h =
      λ up. true≢false (sym (ap is_lt (below (e ∷ es) up h.0 (h.0 + 1) e (omega arith) h.1)) ∙ sym (h.2 e))
