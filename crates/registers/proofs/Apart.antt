-- Entries of which no two have one id: at most one has any given id.
use Rattle.std.proofs.Common.{◌≡◌, ℕ, zero, suc, ◌+◌, ◌<◌, ◌≤◌, Bool, true, false, cond, List, [], ◌∷◌, ◌++◌, length, get_or, count_by, Ordering, Less, Equal, Greater, sym, refl, ap, ◌∙◌, subst, arith}
use Rattle.std.specs.Cmp.{IsTotalOrder, alike_right, tied_back}
use Rattle.std.specs.Ordering.{is_eq, is_lt, ordering_reverse}
use Rattle.std.specs.List.Sorted.{IsSortedWithin, IsPermutation, IsStrictlySortedBy}
use Rattle.std.specs.List.{AllByRecursion}
use Rattle.std.proofs.lemmas.Map.Keys.{sorted_from_all_adjacent}
use Rattle.std.proofs.lemmas.List.{get_or-map, length-map}
use Rattle.std.proofs.lemmas.List.Sorted.{sum_by-IsPermutation}
use Rattle.std.proofs.lemmas.List.Sums.{sum_by-append, sum_by-cons}
use Rattle.std.proofs.lemmas.Bool.{true≢false}
use Rattle.registers.specs.declared.entry.Entry.{Entry}
use Rattle.registers.specs.declared.entry.Id.{Id}
use Rattle.registers.specs.Entries.{ids}
use Rattle.registers.proofs.Lookups.{sorted_head, sorted_tail}
use Rattle.registers.proofs.Numbers.{equal_is}

-- ---- counts

abbrev one : Bool → ℕ
one b = cond b 1 0

count_cons : {X : Type 0} (p : X → Bool) (x : X) (xs : List X) → count_by p (x ∷ xs) ≡ one (p x) + count_by p xs
count_cons p x xs = sum_by-cons (λ y. one (p y)) x xs

pub count_two : {X : Type 0} (p : X → Bool) (xs : List X) (k : ℕ) (d : X) → k + 1 < length xs → p (get_or xs k d) ≡ true → p (get_or xs (k + 1) d) ≡ true → 2 ≤ count_by p xs
count_two p [] k d l a b = absurd (omega arith)
count_two p (x ∷ []) k d l a b = absurd (omega arith)
count_two p (x ∷ (y ∷ xs)) zero d l a b =
    omega (arith, count_cons p x (y ∷ xs), count_cons p y xs, ap one a, ap one b)
count_two p (x ∷ (y ∷ xs)) (suc k) d l a b =
    let next : suc k + 1 ≡ suc (k + 1) = omega arith in
    let h = count_two p (y ∷ xs) k d (omega arith) a (subst (λ n. p (get_or (x ∷ (y ∷ xs)) n d) ≡ true) next b) in
    omega (arith, h, count_cons p x (y ∷ xs))

pub count_some : {X : Type 0} (p : X → Bool) (xs : List X) → 1 ≤ count_by p xs → (k : ℕ) × (k < length xs) × ((d : X) → p (get_or xs k d) ≡ true)
count_some p [] h = absurd (omega arith)
count_some p (x ∷ xs) h = go (p x) refl (count_some p xs) (omega (arith, h, count_cons p x xs))
  where
    go : (b : Bool) → p x ≡ b → (1 ≤ count_by p xs → (k : ℕ) × (k < length xs) × ((d : _) → p (get_or xs k d) ≡ true)) → 1 ≤ one b + count_by p xs →
        (k : ℕ) × (k < suc (length xs)) × ((d : _) → p (get_or (x ∷ xs) k d) ≡ true)
    go true e ih h = (0, omega arith, λ d. e)
    go false e ih h = let r = ih (omega (arith, h)) in (suc r.0, omega (arith, r.1), r.2)

pub count_none : {X : Type 0} (p : X → Bool) (xs : List X) → AllByRecursion (λ x. p x ≡ false) xs → count_by p xs ≡ 0
count_none p [] h = refl
count_none p (x ∷ xs) h = omega (arith, ap one h.0, count_cons p x xs, count_none p xs h.1)

-- ---- ids

module _ {N T : Type 0} {P : Id N → Id N → Ordering} (o : IsTotalOrder P) where
  abbrev pub has_id : Id N → Entry N T → Bool
  has_id i e = is_eq (P e.id i)

  abbrev pub Apart : List (Entry N T) → Type 0
  Apart es = (i : Id N) → count_by (has_id i) es ≤ 1

  pub apart_shuffled : (es fs : List (Entry N T)) → IsPermutation es fs → Apart es → Apart fs
  apart_shuffled es fs h a i = omega (arith, a i, sum_by-IsPermutation (λ e. one (has_id i e)) es fs h)

  -- entries that ascend are apart
  pub apart_ascending : (es : List (Entry N T)) → IsStrictlySortedBy P (ids es) → Apart es
  apart_ascending [] up i = omega arith
  apart_ascending (e ∷ es) up i =
      omega (arith, count_cons (has_id i) e es, go (has_id i e) refl (apart_ascending es (sorted_tail o e.id (ids es) up) i))
    where
      others : has_id i e ≡ true → (es : List (Entry N T)) → AllByRecursion (λ y. P e.id y ≡ Less) (ids es) → AllByRecursion (λ x. has_id i x ≡ false) es
      others t [] h = tt
      others t (x ∷ es) h = (off x h.0 t, others t es h.1)
        where
          off : (x : Entry N T) → P e.id x.id ≡ Less → has_id i e ≡ true → has_id i x ≡ false
          off x less t = ap is_eq (o.antisymm x.id i ∙ ap ordering_reverse (sym (o.congr e.id i x.id (equal_is _ t)) ∙ less))

      go : (b : Bool) → has_id i e ≡ b → count_by (has_id i) es ≤ 1 → one b + count_by (has_id i) es ≤ 1
      go true t ih = omega (arith, count_none (has_id i) es (others t es (sorted_head o e.id (ids es) up)))
      go false t ih = omega (arith, ih)

  -- two lists without a common id
  pub apart_append : (es fs : List (Entry N T)) → Apart es → Apart fs →
      ((j k : ℕ) (d : Entry N T) → j < length es → k < length fs → P (get_or es j d).id (get_or fs k d).id ≡ Equal → ⊥) → Apart (es ++ fs)
  apart_append es fs a b cross i = go (count_by (has_id i) es) refl (count_by (has_id i) fs) refl
    where
      sum : count_by (has_id i) (es ++ fs) ≡ count_by (has_id i) es + count_by (has_id i) fs
      sum = sum_by-append (λ e. one (has_id i e)) es fs

      go : (m : ℕ) → count_by (has_id i) es ≡ m → (n : ℕ) → count_by (has_id i) fs ≡ n → count_by (has_id i) (es ++ fs) ≤ 1
      go zero p n q = omega (arith, sum, p, b i)
      go (suc m) p zero q = omega (arith, sum, q, a i)
      go (suc m) p (suc n) q =
          let x = count_some (has_id i) es (omega (arith, p)) in
          let y = count_some (has_id i) fs (omega (arith, q)) in
          absurd (meet es x.0 x.1 x.2 y.0 y.1 y.2 cross)
        where
          first : (xs : List (Entry N T)) (k : ℕ) → k < length xs → Entry N T
          first [] k l = absurd (omega arith)
          first (x ∷ xs) k l = x

          meet : (es : List (Entry N T)) (j : ℕ) → j < length es → ((d : Entry N T) → has_id i (get_or es j d) ≡ true) →
              (k : ℕ) → k < length fs → ((d : Entry N T) → has_id i (get_or fs k d) ≡ true) →
              ((j k : ℕ) (d : Entry N T) → j < length es → k < length fs → P (get_or es j d).id (get_or fs k d).id ≡ Equal → ⊥) → ⊥
          meet es j l p k h q cross =
              let d = first es j l in
              cross j k d l h (sym (alike_right o i (get_or fs k d).id (get_or es j d).id (tied_back o (get_or fs k d).id i (equal_is _ (q d)))) ∙ equal_is _ (p d))

  -- apart and not descending is ascending
  pub strict : (es : List (Entry N T)) → Apart es → IsSortedWithin (λ x y. is_lt (P x.id y.id)) es 0 (length es) → IsStrictlySortedBy P (ids es)
  unfolding IsStrictlySortedBy
  strict [] a up = tt
  strict (e ∷ es) a up = sorted_from_all_adjacent o (ids (e ∷ es)) e.id next
    where
      less : (x y : Entry N T) (k : ℕ) → k + 1 < length (e ∷ es) → x ≡ get_or (e ∷ es) k e → y ≡ get_or (e ∷ es) (k + 1) e → (r : Ordering) → P x.id y.id ≡ r → r ≡ Less
      less x y k l p q Less t = refl
      less x y k l p q Equal t =
          let two = count_two (has_id y.id) (e ∷ es) k e l
          (ap (has_id y.id) (sym p) ∙ ap is_eq t)
          (ap (has_id y.id) (sym q) ∙ ap is_eq (sym (o.congr x.id y.id y.id t) ∙ t)) in
          absurd (omega (arith, two, a y.id))
      less x y k l p q Greater t =
          let back : P y.id x.id ≡ Less = o.antisymm y.id x.id ∙ ap ordering_reverse t in
          absurd (true≢false (sym (ap is_lt back) ∙ ((λ i. is_lt (P (q i).id (p i).id)) ∙ up k e (omega arith) l)))

      next : (k : ℕ) → k + 1 < length (ids (e ∷ es)) → P (get_or (ids (e ∷ es)) k e.id) (get_or (ids (e ∷ es)) (k + 1) e.id) ≡ Less
      next k l =
          let n : length (ids (e ∷ es)) ≡ length (e ∷ es) = length-map (e ∷ es) (λ x. x.id) in
          let h : k + 1 < length (e ∷ es) = omega (arith, n) in
          (λ t. P (get_or-map (λ x. x.id) (e ∷ es) k e e.id (omega arith) t) (get_or-map (λ x. x.id) (e ∷ es) (k + 1) e e.id h t))
          ∙ less (get_or (e ∷ es) k e) (get_or (e ∷ es) (k + 1) e) k h refl refl (P (get_or (e ∷ es) k e).id (get_or (e ∷ es) (k + 1) e).id) refl
