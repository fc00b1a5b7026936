-- Ascending entries in three parts: those of lower suppliers, a supplier's own, and those of higher ones.
use Rattle.std.proofs.Common.{◌≡◌, ℕ, ◌+◌, ◌-◌, ◌<◌, ◌≤◌, Bool, true, false, not, ◌&&◌, List, ◌++◌, length, get_or, take, drop, filter, Ordering, Less, Equal, Greater, sym, ap, ◌∙◌, subst, ⊎_elim, arith}
use Rattle.std.specs.Cmp.{ranks}
use Rattle.std.specs.Ordering.{MatchOrdering, is_gt, ordering_then, nat_cmp}
use Rattle.std.specs.List.Sorted.{IsStrictlySortedBy}
use Rattle.std.specs.List.{AllByRecursion}
use Rattle.std.proofs.lemmas.List.Elements.{filter-append}
use Rattle.std.proofs.ByRecursion.{All-weaker}
use Rattle.std.proofs.lemmas.List.{append-nil, drop-drop, drop-map, get_or-drop, get_or-take, length-drop, length-take, take-append-drop, take-map}
use Rattle.std.proofs.lemmas.Bool.{and_left, cases_order, eq-eqb, ne_eqb, true≢false}
use Rattle.kinds.specs.Meaning.{Order}
use Rattle.registers.specs.declared.entry.Entry.{Entry}
use Rattle.registers.specs.Entries.{Ascending, ids, is_own}
use Rattle.registers.specs.Ids.{compare_ids}
use Rattle.registers.specs.Own.{BySupplier, OwnPart, part}
use Rattle.registers.proofs.Lists.{all_places, kept_alike, kept_all, kept_none, sorted_drop, sorted_take}
use Rattle.registers.proofs.Lookups.{below}
use Rattle.registers.proofs.Missed.{id_order}

pub ascending_part : {N T : Type 0} (o : Order N) (es : List (Entry N T)) (start end : ℕ) → Ascending o es → Ascending o (part start end es)
ascending_part o es start end up =
    let e : ids (part start end es) ≡ take (end - start) (drop start (ids es)) =
    sym (take-map (λ e. e.id) (end - start) (drop start es)) ∙ ap (take (end - start)) (sym (drop-map (λ e. e.id) start es)) in
    subst (IsStrictlySortedBy (compare_ids o)) (sym e) (sorted_take (compare_ids o) (end - start) (drop start (ids es)) (sorted_drop (compare_ids o) start (ids es) up))

-- where ids compare as less, the supplier is no higher
lower_supplier : (a b : ℕ) (r : Ordering) → ordering_then (nat_cmp a b) r ≡ Less → a ≤ b
lower_supplier a b r e = go (nat_cmp a b) (ranks a b) e
  where
    go : (q : Ordering) → MatchOrdering q (a < b) (a ≡ b) (b < a) → ordering_then q r ≡ Less → a ≤ b
    go Less h e = omega arith
    go Equal h e = omega arith
    go Greater h e = absurd (true≢false (ap is_gt e))

pub by_supplier : {N T : Type 0} (o : Order N) (es : List (Entry N T)) → Ascending o es → BySupplier es
by_supplier o es up i j d l h =
    ⊎_elim (λ z. subst (λ w. (get_or es i d).id.supplier ≤ (get_or es w d).id.supplier) z (omega arith))
    (⊎_elim (λ z. lower_supplier (get_or es i d).id.supplier (get_or es j d).id.supplier (o.cmp (get_or es i d).id.number (get_or es j d).id.number) (below (id_order o) es up i j d z h))
    (λ z. absurd (omega arith))) (cases_order i j)

module _ {N T : Type 0} (es : List (Entry N T)) (s start end : ℕ) (first : start ≤ end) (last : end ≤ length es) (own : OwnPart es s start end) where
  pub in_parts : es ≡ take start es ++ (part start end es ++ drop end es)
  in_parts =
      let rest : drop (end - start) (drop start es) ≡ drop end es = drop-drop (end - start) start es ∙ ap (λ n. drop n es) (omega arith) in
      sym (take-append-drop start es) ∙ ap (λ r. take start es ++ r) (sym (take-append-drop (end - start) (drop start es)) ∙ ap (λ r. part start end es ++ r) rest)

  pub length_part : length (part start end es) ≡ end - start
  length_part = length-take (end - start) (drop start es) ∙ omega (arith, length-drop start es)

  pub part_own : AllByRecursion (λ e. e.id.supplier ≡ s) (part start end es)
  part_own = all_places (λ e. e.id.supplier ≡ s) (part start end es)
      (λ k d l. ap (λ e. e.id.supplier) (get_or-take (end - start) (drop start es) k d (omega (arith, length_part)) ∙ get_or-drop start es k d)
      ∙ own.own (start + k) d (omega arith) (omega (arith, length_part)))

  pub before_others : AllByRecursion (λ e. is_own s e ≡ false) (take start es)
  before_others = all_places (λ e. is_own s e ≡ false) (take start es)
      (λ k d l.
      let below : k < start = omega (arith, length-take start es) in
      ne_eqb (get_or (take start es) k d).id.supplier s
      (λ e. omega (arith, own.before k d (omega arith) below, sym (ap (λ e. e.id.supplier) (get_or-take start es k d below)) ∙ e)))

  pub after_others : AllByRecursion (λ e. is_own s e ≡ false) (drop end es)
  after_others = all_places (λ e. is_own s e ≡ false) (drop end es)
      (λ k d l. ne_eqb (get_or (drop end es) k d).id.supplier s
      (λ e. omega (arith, own.after (end + k) d (omega arith) (omega (arith, length-drop end es)), sym (ap (λ e. e.id.supplier) (get_or-drop end es k d)) ∙ e)))

  pub all_own : AllByRecursion (λ e. is_own s e ≡ true) (part start end es)
  all_own = All-weaker (λ e. e.id.supplier ≡ s) (λ e. is_own s e ≡ true) (λ e h. eq-eqb e.id.supplier s h) (part start end es) part_own

  -- what is kept of all entries
  kept_parts : (p : Entry N T → Bool) → filter p es ≡ filter p (take start es) ++ (filter p (part start end es) ++ filter p (drop end es))
  kept_parts p =
      ap (filter p) in_parts
      ∙ (filter-append p (take start es) (part start end es ++ drop end es) ∙ ap (λ r. filter p (take start es) ++ r) (filter-append p (part start end es) (drop end es)))

  pub others_are : filter (λ e. not (is_own s e)) es ≡ take start es ++ drop end es
  others_are =
      let p : Entry N T → Bool = λ e. not (is_own s e) in
      let turn : (e : Entry N T) → is_own s e ≡ false → p e ≡ true = λ e h. ap not h in
      let turn' : (e : Entry N T) → is_own s e ≡ true → p e ≡ false = λ e h. ap not h in
      kept_parts p
      ∙ (λ i. kept_all p (take start es) (All-weaker (λ e. is_own s e ≡ false) (λ e. p e ≡ true) turn (take start es) before_others) i
      ++ (kept_none p (part start end es) (All-weaker (λ e. is_own s e ≡ true) (λ e. p e ≡ false) turn' (part start end es) all_own) i
      ++ kept_all p (drop end es) (All-weaker (λ e. is_own s e ≡ false) (λ e. p e ≡ true) turn (drop end es) after_others) i))

  pub own_kept : (q : Entry N T → Bool) → filter (λ e. is_own s e && q e) es ≡ filter q (part start end es)
  own_kept q =
      let p : Entry N T → Bool = λ e. is_own s e && q e in
      let off : (e : Entry N T) → is_own s e ≡ false → p e ≡ false = λ e h. and_left (is_own s e) (q e) h in
      let on : (e : Entry N T) → is_own s e ≡ true → p e ≡ q e = λ e h. ap (λ b. b && q e) h in
      kept_parts p
      ∙ ((λ i. kept_none p (take start es) (All-weaker (λ e. is_own s e ≡ false) (λ e. p e ≡ false) off (take start es) before_others) i
      ++ (kept_alike p q (part start end es) (All-weaker (λ e. is_own s e ≡ true) (λ e. p e ≡ q e) on (part start end es) all_own) i
      ++ kept_none p (drop end es) (All-weaker (λ e. is_own s e ≡ false) (λ e. p e ≡ false) off (drop end es) after_others) i))
      ∙ append-nil (filter q (part start end es)))

  pub own_are : filter (is_own s) es ≡ part start end es
  own_are =
      kept_parts (is_own s)
      ∙ ((λ i. kept_none (is_own s) (take start es) before_others i ++ (kept_all (is_own s) (part start end es) all_own i ++ kept_none (is_own s) (drop end es) after_others i))
      ∙ append-nil (part start end es))
