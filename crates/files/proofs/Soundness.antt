-- A file has no fault exactly where its rows keep the rules, all of them and not only neighbours.
use Rattle.std.proofs.Common.{◌≡◌, ℕ, zero, suc, ◌<◌, Bool, true, false, cond, List, is_ok, Some, None, Ok, Err, Decides, Option, Result, Ordering, Less, Equal, Greater, sym, refl, ap, ◌∙◌, subst, ⊎_elim, arith}
use Rattle.std.specs.Ordering.{is_eq, is_gt, ordering_reverse}
use Rattle.std.proofs.lemmas.Bool.{cases_order, false≢true, or_from, or_parts, true≢false}
use Rattle.fields.specs.declared.fault.FieldFault.{FieldFault}
use Rattle.kinds.specs.Meaning.{Meaning, Order, reads}
use Rattle.files.specs.declared.fault.FileFault.{FileFault}
use Rattle.files.specs.declared.fault.RowFault.{RowFault}
use Rattle.files.specs.declared.fault.RowFault.TheVariants.{Later, Twice}
use Rattle.files.specs.Files.{SoundRows, comes_later, file_fault, judged, key_before, light_fault, number_at, number_fault, record_at, row_fault, same_number, stands_below, told}
use Rattle.files.specs.First.{or_else}
use Rattle.files.proofs.Firsts.{first_none, none_first, some_none}
use Rattle.files.proofs.Scans.{record_is}

-- not later, and not later again
pub not_later : {K : Type 0} (o : Order K) (x y z : K) → is_gt (o.cmp x y) ≡ false → is_gt (o.cmp y z) ≡ false → is_gt (o.cmp x z) ≡ false
not_later o x y z p q = go (o.cmp x y) refl (o.cmp y z) refl p q
  where
    back : (a b : _) → o.cmp a b ≡ Equal → (c : _) → o.cmp c a ≡ o.cmp c b
    back a b e c = o.flip c a ∙ (ap ordering_reverse (o.alike a b c e) ∙ sym (o.flip c b))

    go : (a : Ordering) → o.cmp x y ≡ a → (b : Ordering) → o.cmp y z ≡ b → is_gt a ≡ false → is_gt b ≡ false → is_gt (o.cmp x z) ≡ false
    go Less e Less f p q = ap is_gt (o.trans x y z e f)
    go Less e Equal f p q = ap is_gt (sym (back y z f x) ∙ e)
    go Less e Greater f p q = absurd (true≢false q)
    go Equal e b f p q = ap is_gt (o.alike x y z e ∙ f) ∙ q
    go Greater e b f p q = absurd (true≢false p)

or_none : {A : Type 0} (a b : Option A) → or_else a b ≡ None → (a ≡ None) × (b ≡ None)
or_none (Some x) b e = absurd (some_none x e)
or_none None b e = (refl, e)

module _ {R T N K : Type 0} (m : Meaning R T N K) (s : ℕ) (row : ℕ → List ℕ) where
  -- a row that is read and not before its neighbour has no light fault, and the other way round
  light_when : (k : ℕ) → is_ok (reads m s (row k)) ≡ true → ((j : ℕ) → k ≡ suc j → comes_later m s row j k ≡ false) → light_fault m s row k ≡ None
  light_when k ok after = go k (reads m s (row k)) refl ok after
    where
      go : (k : ℕ) (r : Result R FieldFault) → reads m s (row k) ≡ r → is_ok r ≡ true → ((j : ℕ) → k ≡ suc j → comes_later m s row j k ≡ false) → judged m (key_before m s row k) r ≡ None
      go k (Err e) p ok after = absurd (false≢true ok)
      go zero (Ok r) p ok after = refl
      go (suc j) (Ok r) p ok after =
          ap (λ b. cond b (Some (Later (m.record_number (m.number r)))) None)
          (ap (λ x. is_gt (m.file_order.cmp (m.order (record_at m s row j)) (m.order x))) (sym (record_is m s row (suc j) r p)) ∙ after j refl)

  light_reads : (k : ℕ) → light_fault m s row k ≡ None → is_ok (reads m s (row k)) ≡ true
  light_reads k e = go (reads m s (row k)) e
    where
      go : (r : Result R FieldFault) → judged m (key_before m s row k) r ≡ None → is_ok r ≡ true
      go (Ok r) e = refl
      go (Err x) e = absurd (some_none _ e)

  light_order : (k : ℕ) → light_fault m s row (suc k) ≡ None → comes_later m s row k (suc k) ≡ false
  light_order k e = go (reads m s (row (suc k))) refl e
    where
      off : (b : Bool) (x : RowFault) → cond b (Some x) None ≡ None → b ≡ false
      off true x e = absurd (some_none x e)
      off false x e = refl

      go : (r : Result R FieldFault) → reads m s (row (suc k)) ≡ r → judged m (key_before m s row (suc k)) r ≡ None → comes_later m s row k (suc k) ≡ false
      go (Ok r) p e = ap (λ x. is_gt (m.file_order.cmp (m.order (record_at m s row k)) (m.order x))) (record_is m s row (suc k) r p) ∙ off _ _ e
      go (Err x) p e = absurd (some_none _ e)

  -- none of the first n rows has the number of row k
  below_when : (k n : ℕ) → ((j : ℕ) → j < n → same_number m s row j k ≡ false) → stands_below m s row k n ≡ false
  below_when k zero h = refl
  below_when k (suc n) h = or_from _ _ (below_when k n (λ j l. h j (omega arith))) (h n (omega arith))

  below_each : (k n : ℕ) → stands_below m s row k n ≡ false → (j : ℕ) → j < n → same_number m s row j k ≡ false
  below_each k zero e j l = absurd (omega arith)
  below_each k (suc n) e j l =
      let both = or_parts _ _ e in
      ⊎_elim (λ z. subst (λ w. same_number m s row w k ≡ false) (sym z) both.1)
      (⊎_elim (below_each k n both.0 j) (λ z. absurd (omega arith))) (cases_order j n)

  is_off : (b : Bool) (x : RowFault) → cond b (Some x) None ≡ None → b ≡ false
  is_off true x e = absurd (some_none x e)
  is_off false x e = refl

  differ : (j k : ℕ) → (m.number (record_at m s row j) ≡ m.number (record_at m s row k) → ⊥) → same_number m s row j k ≡ false
  differ j k no' = go (m.numbers.cmp (m.number (record_at m s row j)) (m.number (record_at m s row k))) refl
    where
      go : (o : Ordering) → m.numbers.cmp (m.number (record_at m s row j)) (m.number (record_at m s row k)) ≡ o → is_eq o ≡ false
      go Less e = refl
      go Equal e = absurd (no' (m.apart _ _ e))
      go Greater e = refl

  -- a number compares as equal to itself
  itself : (x : N) → m.numbers.cmp x x ≡ Equal
  itself x = go (m.numbers.cmp x x) refl
    where
      go : (o : Ordering) → m.numbers.cmp x x ≡ o → m.numbers.cmp x x ≡ Equal
      go Less e = absurd (true≢false (ap is_gt (ap ordering_reverse (sym e) ∙ (sym (m.numbers.flip x x) ∙ e))))
      go Equal e = e
      go Greater e = absurd (true≢false (ap is_gt (sym e ∙ (m.numbers.flip x x ∙ ap ordering_reverse e))))

  -- rows in order neighbour by neighbour are in order
  far : (n : ℕ) → ((k : ℕ) → suc k < n → comes_later m s row k (suc k) ≡ false) → (j k : ℕ) → j < k → k < n → comes_later m s row j k ≡ false
  far n next j zero p q = absurd (omega arith)
  far n next j (suc k) p q =
      ⊎_elim (λ z. subst (λ w. comes_later m s row w (suc k) ≡ false) (sym z) (next k q))
      (⊎_elim
      (λ z. not_later m.file_order _ _ _ (far n next j k z (omega arith)) (next k q))
      (λ z. absurd (omega arith)))
      (cases_order j k)

  pub sound_when_none : (n : ℕ) → file_fault m s row n ≡ None → SoundRows m s row n
  unfolding file_fault
  sound_when_none n none =
      let each = λ (k : ℕ) (l : k < n). or_none (light_fault m s row k) (number_fault m s row k) (none_first (row_fault m s row) n none k l) in
      record {
        read = λ k l. light_reads k (each k l).0;
        ordered = far n (λ k l. light_order k (each (suc k) l).0);
        single = λ j k p q same.
            let apart = below_each k k (is_off _ _ (each k q).1) j p in
            false≢true (sym apart ∙ ap is_eq (ap (λ x. m.numbers.cmp (m.number (record_at m s row j)) x) (sym same) ∙ itself _));
      }

  pub none_when_sound : (n : ℕ) → SoundRows m s row n → file_fault m s row n ≡ None
  unfolding file_fault
  none_when_sound n sound =
      first_none (row_fault m s row) n
      (λ k l.
      (λ i. or_else
      (light_when k (sound.read k l) (λ j e. sound.ordered j k (subst (λ w. j < w) (sym e) (omega arith)) l) i)
      (cond (below_when k k (λ j p. differ j k (sound.single j k p l)) i) (Some (Twice (number_at m s row k))) None)))

  -- what reading n rows owes besides the first fault
  pub told_sound : (n : ℕ) (r : Result (Unit {0}) FileFault) → r ≡ told (file_fault m s row n) → Decides (is_ok r) (SoundRows m s row n)
  told_sound n r e = go (file_fault m s row n) refl e
    where
      go : (o : Option (ℕ × RowFault)) → file_fault m s row n ≡ o → r ≡ told o → Decides (is_ok r) (SoundRows m s row n)
      go None p e = (λ _. sound_when_none n p, λ _. ap is_ok e)
      go (Some x) p e = (
        λ ok. absurd (false≢true (sym (ap is_ok e) ∙ ok)),
        λ sound. absurd (some_none x (sym p ∙ none_when_sound n sound)),
      )
