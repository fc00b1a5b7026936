-- The series that join finds: only a supplier's own count, and none that joins the stations comes before it.
use Rattle.std.proofs.Common.{◌≡◌, ℕ, zero, suc, ◌<◌, ◌≤◌, Bool, true, false, cond, ◌⊎◌, List, [], ◌∷◌, length, get_or, Some, None, fold, filter, Option, Ordering, Less, Equal, Greater, sym, refl, ap, ◌∙◌, subst, inl, inr, ⊎_elim, arith, MatchOption}
use Rattle.std.specs.Option.{option_map}
use Rattle.std.specs.Cmp.{ranks}
use Rattle.std.specs.List.{cons_option, filter_map, reduce}
use Rattle.std.specs.Ordering.{MatchOrdering, min_by_ordering, nat_cmp, ordering_then}
use Rattle.std.proofs.lemmas.Bool.{and_from, and_parts, cases_Bool, cases_lt, cases_order, cond-false, cond-true, eq-eqb, eqb-true, lt-ltb, ltb-true, or_cases, or_left, or_right, true≢false}
use Rattle.files.proofs.Firsts.{some_none}
use Rattle.kinds.specs.declared.series.SeriesTold.{SeriesTold}
use Rattle.registers.specs.declared.entry.Entry.{Entry}
use Rattle.registers.specs.declared.entry.Standing.{Standing}
use Rattle.registers.specs.declared.entry.Standing.TheVariants.{Live, Retired}
use Rattle.registers.specs.Entries.{is_live, is_own}
use Rattle.books.specs.Join.{Joining, Nearest, better, comes_first, joins, series_between, with_own, with_series}

pub folded_own : (s a b : ℕ) (es : List (Entry ℕ SeriesTold)) (x : Option (ℕ × ℕ)) → fold (with_own s a b) x es ≡ fold (with_series a b) x (filter (is_own s) es)
folded_own s a b [] x = refl
folded_own s a b (e ∷ es) x = go (is_own s e) (folded_own s a b es)
  where
    go : (t : Bool) → ((x : Option (ℕ × ℕ)) → fold (with_own s a b) x es ≡ fold (with_series a b) x (filter (is_own s) es)) →
        fold (with_own s a b) (cond t (with_series a b x e) x) es ≡ fold (with_series a b) x (cond t (e ∷ filter (is_own s) es) (filter (is_own s) es))
    go true ih = ih (with_series a b x e)
    go false ih = ih x

-- ---- route numbers and numbers

earlier : (x y : ℕ × ℕ) → comes_first x y ≡ true → (x.0 < y.0) ⊎ ((x.0 ≡ y.0) × (x.1 < y.1))
earlier x y e =
    ⊎_elim (λ h. inl (ltb-true x.0 y.0 h)) (λ h. let b = and_parts _ _ h in inr (eqb-true x.0 y.0 b.0, ltb-true x.1 y.1 b.1)) (or_cases _ _ e)

not_earlier : (x y : ℕ × ℕ) → ((x.0 < y.0) ⊎ ((x.0 ≡ y.0) × (x.1 < y.1)) → ⊥) → comes_first x y ≡ false
not_earlier x y h = ⊎_elim (λ e. absurd (h (earlier x y e))) (λ e. e) (cases_Bool (comes_first x y))

no_earlier : (x y : ℕ × ℕ) → comes_first x y ≡ false → (y.0 < x.0) ⊎ ((y.0 ≡ x.0) × (y.1 ≤ x.1))
no_earlier x y e =
    ⊎_elim (λ z. inr (sym z, ⊎_elim (λ l. absurd (true≢false (sym (or_right _ _ (and_from _ _ (eq-eqb x.0 y.0 z) (lt-ltb x.1 y.1 l))) ∙ e))) (λ l. l) (cases_lt x.1 y.1)))
    (⊎_elim (λ z. absurd (true≢false (sym (or_left _ _ (lt-ltb x.0 y.0 z)) ∙ e))) inl) (cases_order x.0 y.0)

pub never_itself : (x : ℕ × ℕ) → comes_first x x ≡ false
never_itself x = not_earlier x x (⊎_elim (λ h. omega arith) (λ h. omega arith))

-- what does not come before y does not come before what y does not come before
pub no_earlier_chain : (x y z : ℕ × ℕ) → comes_first x y ≡ false → comes_first y z ≡ false → comes_first x z ≡ false
no_earlier_chain x y z p q = go (no_earlier x y p) (no_earlier y z q)
  where
    go : (y.0 < x.0) ⊎ ((y.0 ≡ x.0) × (y.1 ≤ x.1)) → (z.0 < y.0) ⊎ ((z.0 ≡ y.0) × (z.1 ≤ y.1)) → comes_first x z ≡ false
    go (inl a) (inl b) = not_earlier x z (⊎_elim (λ h. omega arith) (λ h. omega arith))
    go (inl a) (inr b) = not_earlier x z (⊎_elim (λ h. omega arith) (λ h. omega arith))
    go (inr a) (inl b) = not_earlier x z (⊎_elim (λ h. omega arith) (λ h. omega arith))
    go (inr a) (inr b) = not_earlier x z (⊎_elim (λ h. omega arith) (λ h. omega arith))

swapped : (x y : ℕ × ℕ) → comes_first x y ≡ true → comes_first y x ≡ false
swapped x y e = go (earlier x y e)
  where
    go : (x.0 < y.0) ⊎ ((x.0 ≡ y.0) × (x.1 < y.1)) → comes_first y x ≡ false
    go (inl a) = not_earlier y x (⊎_elim (λ h. omega arith) (λ h. omega arith))
    go (inr a) = not_earlier y x (⊎_elim (λ h. omega arith) (λ h. omega arith))

-- neither the best so far nor the other comes before the better one
better_new : (x : Option (ℕ × ℕ)) (p : ℕ × ℕ) → comes_first p (better x p) ≡ false
better_new None p = never_itself p
better_new (Some y) p = go (comes_first p y) refl
  where
    go : (b : Bool) → comes_first p y ≡ b → comes_first p (cond b p y) ≡ false
    go true e = never_itself p
    go false e = e

better_old : (y p : ℕ × ℕ) → comes_first y (better (Some y) p) ≡ false
better_old y p = go (comes_first p y) refl
  where
    go : (b : Bool) → comes_first p y ≡ b → comes_first y (cond b p y) ≡ false
    go true e = swapped p y e
    go false e = never_itself y

-- the better one is the best so far or the other
better_is : (x : Option (ℕ × ℕ)) (p k : ℕ × ℕ) → better x p ≡ k → (x ≡ Some k) ⊎ (p ≡ k)
better_is None p k e = inr e
better_is (Some y) p k e = go (comes_first p y) e
  where
    go : (b : Bool) → cond b p y ≡ k → (Some y ≡ Some k) ⊎ (p ≡ k)
    go true e = inr e
    go false e = inl (ap Some e)

-- what `min` picks of two is the better one
picks : (y x : ℕ × ℕ) → min_by_ordering (ordering_then (nat_cmp y.0 x.0) (nat_cmp y.1 x.1)) y x ≡ better (Some y) x
picks y x = go (nat_cmp y.0 x.0) (ranks y.0 x.0) (nat_cmp y.1 x.1) (ranks y.1 x.1)
  where
    go : (p : Ordering) → MatchOrdering p (y.0 < x.0) (y.0 ≡ x.0) (x.0 < y.0) → (q : Ordering) → MatchOrdering q (y.1 < x.1) (y.1 ≡ x.1) (x.1 < y.1) →
        min_by_ordering (ordering_then p q) y x ≡ cond (comes_first x y) x y
    go Less h q k = sym (cond-false (comes_first x y) x y (not_earlier x y (⊎_elim (λ l. omega arith) (λ l. omega arith))))
    go Equal h Less k = sym (cond-false (comes_first x y) x y (not_earlier x y (⊎_elim (λ l. omega arith) (λ l. omega arith))))
    go Equal h Equal k = sym (cond-false (comes_first x y) x y (not_earlier x y (⊎_elim (λ l. omega arith) (λ l. omega arith))))
    go Equal h Greater k = sym (cond-true (comes_first x y) x y (or_right _ _ (and_from _ _ (eq-eqb x.0 y.0 (sym h)) (lt-ltb x.1 y.1 k))))
    go Greater h q k = sym (cond-true (comes_first x y) x y (or_left _ _ (lt-ltb x.0 y.0 h)))

-- the least of the series between the stations, as a fold over the entries
module _ (a b : ℕ) where
  abbrev pub least : ℕ × ℕ → ℕ × ℕ → ℕ × ℕ
  least y x = min_by_ordering (ordering_then (nat_cmp y.0 x.0) (nat_cmp y.1 x.1)) y x

  least_from : (y : ℕ × ℕ) (es : List (Entry ℕ SeriesTold)) → Some (fold least y (filter_map (series_between a b) es)) ≡ fold (with_series a b) (Some y) es
  least_from y [] = refl
  least_from y (e ∷ es) = go e.standing (λ z. least_from z es)
    where
      pick : (p : ℕ × ℕ) (j : Bool) → ((z : ℕ × ℕ) → Some (fold least z (filter_map (series_between a b) es)) ≡ fold (with_series a b) (Some z) es) →
          Some (fold least y (cons_option (cond j (Some p) None) (filter_map (series_between a b) es))) ≡
          fold (with_series a b) (cond j (Some (better (Some y) p)) (Some y)) es
      pick p false ih = ih y
      pick p true ih = ih (least y p) ∙ ap (λ w. fold (with_series a b) (Some w) es) (picks y p)

      go : (st : Standing SeriesTold) → ((z : ℕ × ℕ) → Some (fold least z (filter_map (series_between a b) es)) ≡ fold (with_series a b) (Some z) es) →
          Some (fold least y (filter_map (series_between a b) ((record { id = e.id; standing = st }) ∷ es))) ≡ fold (with_series a b) (with_series a b (Some y) (record { id = e.id; standing = st })) es
      go (Retired n) ih = ih y
      go (Live t) ih = pick (t.route_number, e.id.number) (joins a b t) ih

  pub least_is : (es : List (Entry ℕ SeriesTold)) → reduce least (filter_map (series_between a b) es) ≡ fold (with_series a b) None es
  least_is [] = refl
  least_is (e ∷ es) = go e.standing (least_is es)
    where
      pick : (p : ℕ × ℕ) (j : Bool) → reduce least (filter_map (series_between a b) es) ≡ fold (with_series a b) None es →
          reduce least (cons_option (cond j (Some p) None) (filter_map (series_between a b) es)) ≡ fold (with_series a b) (cond j (Some p) None) es
      pick p false ih = ih
      pick p true ih = least_from p es

      go : (st : Standing SeriesTold) → reduce least (filter_map (series_between a b) es) ≡ fold (with_series a b) None es →
          reduce least (filter_map (series_between a b) ((record { id = e.id; standing = st }) ∷ es)) ≡ fold (with_series a b) (with_series a b None (record { id = e.id; standing = st })) es
      go (Retired n) ih = ih
      go (Live t) ih = pick (t.route_number, e.id.number) (joins a b t) ih

-- ---- the fold

module _ (s a b : ℕ) where
  -- of these entries, and of the best before them, k is the first
  pub record First (es : List (Entry ℕ SeriesTold)) (x : Option (ℕ × ℕ)) (k : ℕ × ℕ) : Type 0 where
    pub is : (x ≡ Some k) ⊎ Joining es s a b k.0 k.1
    pub before : (j : ℕ × ℕ) → x ≡ Some j → comes_first j k ≡ false
    pub among : (route n : ℕ) → Joining es s a b route n → comes_first (route, n) k ≡ false

  -- no entry joins, and there was no best before
  pub record Nothing (es : List (Entry ℕ SeriesTold)) (x : Option (ℕ × ℕ)) : Type 0 where
    pub before : x ≡ None
    pub among : (route n : ℕ) → Joining es s a b route n → ⊥

  abbrev ResultOf : List (Entry ℕ SeriesTold) → Option (ℕ × ℕ) → Option (ℕ × ℕ) → Type 0
  ResultOf es x r = MatchOption r (Nothing es x) (First es x)

  later : (e : Entry ℕ SeriesTold) (es : List (Entry ℕ SeriesTold)) (route n : ℕ) → Joining es s a b route n → Joining (e ∷ es) s a b route n
  later e es route n j =
      record { told = j.told; stands = (suc j.stands.0, omega (arith, j.stands.1), j.stands.2); between = j.between; route_is = j.route_is }

  abbrev series_of : ℕ → SeriesTold → Entry ℕ SeriesTold
  series_of n t = record { id = record { supplier = s; number = n }; standing = Live t }

  split : (e : Entry ℕ SeriesTold) (es : List (Entry ℕ SeriesTold)) (route n : ℕ) (j : Joining (e ∷ es) s a b route n) → (e ≡ series_of n j.told) ⊎ Joining es s a b route n
  split e es route n j = go j.stands.0 j.stands.1 j.stands.2
    where
      go : (k : ℕ) → k < suc (length es) → ((d : Entry ℕ SeriesTold) → get_or (e ∷ es) k d ≡ series_of n j.told) → (e ≡ series_of n j.told) ⊎ Joining es s a b route n
      go zero l at = inl (at e)
      go (suc k) l at = inr (record { told = j.told; stands = (k, omega arith, at); between = j.between; route_is = j.route_is })

  -- an entry that is no live series of the supplier between the stations changes nothing
  skipped : (e : Entry ℕ SeriesTold) (es : List (Entry ℕ SeriesTold)) (x r : Option (ℕ × ℕ)) → ((n : ℕ) (t : SeriesTold) → e ≡ series_of n t → joins a b t ≡ true → ⊥) →
      ResultOf es x r → ResultOf (e ∷ es) x r
  skipped e es x None no-it h =
      record { before = h.before; among = λ route n j. ⊎_elim (λ q. no-it n j.told q j.between) (λ k. h.among route n k) (split e es route n j) }
  skipped e es x (Some k) no-it h =
      record {
        is = ⊎_elim inl (λ j. inr (later e es k.0 k.1 j)) h.is;
        before = h.before;
        among = λ route n j. ⊎_elim (λ q. absurd (no-it n j.told q j.between)) (λ i. h.among route n i) (split e es route n j);
      }

  -- one that is counts
  counted : (e : Entry ℕ SeriesTold) (es : List (Entry ℕ SeriesTold)) (x r : Option (ℕ × ℕ)) (t : SeriesTold) → e ≡ series_of e.id.number t → joins a b t ≡ true →
      ResultOf es (Some (better x (t.route_number, e.id.number))) r → ResultOf (e ∷ es) x r
  counted e es x None t is ends h = absurd (some_none _ h.before)
  counted e es x (Some k) t is ends h =
      record {
        is = ⊎_elim (λ q. ⊎_elim inl (λ z. inr (here z)) (better_is x p k (some_same q))) (λ j. inr (later e es k.0 k.1 j)) h.is;
        before = λ j q. no_earlier_chain j (better x p) k (old j q) (h.before (better x p) refl);
        among = λ route n j. ⊎_elim
            (λ q. subst (λ w. comes_first w k ≡ false) (same route n j q) (no_earlier_chain p (better x p) k (better_new x p) (h.before (better x p) refl)))
            (λ i. h.among route n i) (split e es route n j);
      }
    where
      p : ℕ × ℕ
      p = (t.route_number, e.id.number)

      some_same : {X : Type 0} {y z : X} → Some y ≡ Some z → y ≡ z
      some_same q = cc

      live_same : {y z : SeriesTold} → Live y ≡ Live z → y ≡ z
      live_same q = cc

      here : p ≡ k → Joining (e ∷ es) s a b k.0 k.1
      here z = subst (λ w. Joining (e ∷ es) s a b w.0 w.1) z
          (record { told = t; stands = (0, omega arith, λ d. is); between = ends; route_is = refl })

      old : (j : ℕ × ℕ) → x ≡ Some j → comes_first j (better x p) ≡ false
      old j q = subst (λ w. comes_first j (better w p) ≡ false) (sym q) (better_old j p)

      same : (route n : ℕ) (j : Joining (e ∷ es) s a b route n) → e ≡ series_of n j.told → p ≡ (route, n)
      same route n j q =
          let told : t ≡ j.told = live_same (sym (ap (λ w. w.standing) is) ∙ ap (λ w. w.standing) q) in
          λ i. ((ap (λ w. w.route_number) told ∙ j.route_is) i, ap (λ w. w.id.number) q i)

  abbrev with_at : Bool → Standing SeriesTold → ℕ → Option (ℕ × ℕ) → Option (ℕ × ℕ)
  with_at o st n x = cond o (elim st [ Live t ↦ cond (joins a b t) (Some (better x (t.route_number, n))) x | Retired y ↦ x ]) x

  pub nearest_fold : (es : List (Entry ℕ SeriesTold)) (x : Option (ℕ × ℕ)) → ResultOf es x (fold (with_own s a b) x es)
  nearest_fold [] None = record { before = refl; among = λ route n j. absurd (omega (arith, j.stands.1)) }
  nearest_fold [] (Some k) =
      record { is = inl refl; before = λ j q. subst (λ w. comes_first w k ≡ false) (some_is q) (never_itself k); among = λ route n j. absurd (omega (arith, j.stands.1)) }
    where
      some_is : {X : Type 0} {y z : X} → Some y ≡ Some z → y ≡ z
      some_is q = cc
  nearest_fold (e ∷ es) x = go (is_own s e) refl e.standing refl (nearest_fold es (with_at (is_own s e) e.standing e.id.number x))
    where
      live_is : {y z : SeriesTold} → Live y ≡ Live z → y ≡ z
      live_is q = cc

      go : (o : Bool) → is_own s e ≡ o → (st : Standing SeriesTold) → e.standing ≡ st →
          ResultOf es (with_at o st e.id.number x) (fold (with_own s a b) (with_at o st e.id.number x) es) →
          ResultOf (e ∷ es) x (fold (with_own s a b) (with_at o st e.id.number x) es)
      go false q st r h = skipped e es x _ (λ n t is ends. true≢false (sym (ap (is_own s) is ∙ eq-eqb s s refl) ∙ q)) h
      go true q (Retired y) r h = skipped e es x _ (λ n t is ends. true≢false (sym (ap is_live (sym r ∙ ap (λ w. w.standing) is)))) h
      go true q (Live t) r h = join (joins a b t) refl h
        where
          join : (j : Bool) → joins a b t ≡ j →
              ResultOf es (cond j (Some (better x (t.route_number, e.id.number))) x) (fold (with_own s a b) (cond j (Some (better x (t.route_number, e.id.number))) x) es) →
              ResultOf (e ∷ es) x (fold (with_own s a b) (cond j (Some (better x (t.route_number, e.id.number))) x) es)
          join true ends h = counted e es x _ t (λ i. record { id = record { supplier = eqb-true e.id.supplier s q i; number = e.id.number }; standing = r i }) ends h
          join false off h = skipped e es x _ (λ n u is ends. true≢false (sym ends ∙ (ap (joins a b) (live_is (sym (ap (λ w. w.standing) is) ∙ r)) ∙ off))) h

  pub nearest_is : (es : List (Entry ℕ SeriesTold)) (r : Option ℕ) → r ≡ option_map (λ x. x.1) (fold (with_own s a b) None es) → Nearest es s a b r
  nearest_is es r e = subst (Nearest es s a b) (sym e) (go (fold (with_own s a b) None es) (nearest_fold es None))
    where
      go : (o : Option (ℕ × ℕ)) → ResultOf es None o → Nearest es s a b (option_map (λ x. x.1) o)
      go None h = h.among
      go (Some k) h = (k.0, ⊎_elim (λ q. absurd (some_none k (sym q))) (λ j. j) h.is, λ route n j. h.among route n j)
