-- Where a supplier's line stands.
use Rattle.std.proofs.Common.{◌≡◌, ℕ, zero, suc, ◌+◌, ◌-◌, ◌<◌, ◌≤◌, max, Bool, true, false, cond, not, ◌&&◌, eqb, leb, ltb, List, [], ◌∷◌, ◌++◌, length, take, set, is_some, Some, None, Option, sym, refl, ap, ◌∙◌, ⊎_elim, arith, position}
use Rattle.std.specs.List.{find, position_or_len}
use Rattle.std.specs.Option.{unwrap_or}
use Rattle.std.proofs.lemmas.List.Recursion.{is_position_or_len}
use Rattle.std.proofs.lemmas.List.{length-take, take_more_set}
use Rattle.std.proofs.lemmas.Bool.{cases_lt, leb-false, ltb-false}
use Rattle.deliveries.specs.declared.head.Head.{Head}
use Rattle.files.proofs.Firsts.{some_none}
use Rattle.books.specs.declared.fault.LineFault.{LineFault}
use Rattle.books.specs.declared.fault.LineFault.TheVariants.{TooManySuppliers, DoesNotFollow, NoReceiptLeft}
use Rattle.books.specs.declared.lines.Line.{Line}
use Rattle.books.specs.Lines.{follows, judged_line, line_after, line_fault, line_of, noted, place}

pub place_bound : (ls : List Line) (s : ℕ) → place ls s ≤ length ls
place_bound [] s = omega arith
place_bound (x ∷ ls) s = go (eqb x.supplier s) (place_bound ls s)
  where
    go : (b : Bool) → place ls s ≤ length ls → cond b 0 (suc (place ls s)) ≤ suc (length ls)
    go true h = omega arith
    go false h = omega (arith, h)

-- the place that code finds, or the next one
pub place_or : (ls : List Line) (s n : ℕ) → n ≡ length ls → unwrap_or (position (λ l. eqb l.supplier s) ls) n ≡ place ls s
place_or ls s n is =
    let same : place ls s ≡ position_or_len (λ l. eqb l.supplier s) ls = is_position_or_len (λ ls. place ls s) (λ l. eqb l.supplier s) refl (λ x xs. (let e : suc (place xs s) ≡ 1 + place xs s = omega arith in ap (cond (eqb x.supplier s) 0) e)) ls in
    go (ltb (position_or_len (λ l. eqb l.supplier s) ls) (length ls)) refl same
  where
    go : (b : Bool) → ltb (position_or_len (λ l. eqb l.supplier s) ls) (length ls) ≡ b → place ls s ≡ position_or_len (λ l. eqb l.supplier s) ls →
        unwrap_or (cond b (Some (position_or_len (λ l. eqb l.supplier s) ls)) None) n ≡ place ls s
    go true e same = sym same
    go false e same = omega (arith, is, same, place_bound ls s, ltb-false (position_or_len (λ l. eqb l.supplier s) ls) (length ls) e)

pub found_line : (ls : List Line) (s : ℕ) → find (λ l. eqb l.supplier s) ls ≡ line_of ls s
found_line [] s = refl
found_line (x ∷ ls) s = ap (cond (eqb x.supplier s) (Some x)) (found_line ls s)

pub no_line : (ls : List Line) (s : ℕ) → length ls ≤ place ls s → line_of ls s ≡ None
no_line [] s l = refl
no_line (x ∷ ls) s l = go (eqb x.supplier s) l (no_line ls s)
  where
    go : (b : Bool) → suc (length ls) ≤ cond b 0 (suc (place ls s)) → (length ls ≤ place ls s → line_of ls s ≡ None) → cond b (Some x) (line_of ls s) ≡ None
    go true l ih = absurd (omega arith)
    go false l ih = ih (omega arith)

pub noted_set : (ls : List Line) (l : Line) → place ls l.supplier < length ls → noted ls l ≡ set ls (place ls l.supplier) l
noted_set [] l h = absurd (omega arith)
noted_set (x ∷ ls) l h = go (eqb x.supplier l.supplier) h (noted_set ls l)
  where
    go : (b : Bool) → cond b 0 (suc (place ls l.supplier)) < suc (length ls) → (place ls l.supplier < length ls → noted ls l ≡ set ls (place ls l.supplier) l) →
        cond b (l ∷ ls) (x ∷ noted ls l) ≡ set (x ∷ ls) (cond b 0 (suc (place ls l.supplier))) l
    go true h ih = refl
    go false h ih = ap (λ r. x ∷ r) (ih (omega arith))

pub noted_push : (ls : List Line) (l : Line) → length ls ≤ place ls l.supplier → noted ls l ≡ ls ++ (l ∷ [])
noted_push [] l h = refl
noted_push (x ∷ ls) l h = go (eqb x.supplier l.supplier) h (noted_push ls l)
  where
    go : (b : Bool) → suc (length ls) ≤ cond b 0 (suc (place ls l.supplier)) → (length ls ≤ place ls l.supplier → noted ls l ≡ ls ++ (l ∷ [])) →
        cond b (l ∷ ls) (x ∷ noted ls l) ≡ x ∷ (ls ++ (l ∷ []))
    go true h ih = absurd (omega arith)
    go false h ih = ap (λ r. x ∷ r) (ih (omega arith))

-- a delivery that may follow has a place among 16 lines, and a receipt is left
pub place_below : (ls : List Line) (given : ℕ) (h : Head) → length ls ≤ 16 → line_fault ls given h ≡ None → place ls h.supplier ≤ length ls → place ls h.supplier < 16
unfolding line_fault
place_below ls given h few none bound =
    ⊎_elim (λ l. omega (arith, few)) (λ l. go (no_line ls h.supplier l)) (cases_lt (place ls h.supplier) (length ls))
  where
    off : (b : Bool) (x y : Option LineFault) → cond b (Some TooManySuppliers) x ≡ None → b ≡ false
    off true x y e = absurd (some_none _ e)
    off false x y e = refl

    go : line_of ls h.supplier ≡ None → place ls h.supplier < 16
    go e =
        let room : leb 16 (length ls) ≡ false = off _ _ None (ap (λ o. judged_line o (leb 16 (length ls)) given h) (sym e) ∙ none) in
        omega (arith, leb-false 16 (length ls) room, bound)

pub receipt_left : (ls : List Line) (given : ℕ) (h : Head) → line_fault ls given h ≡ None → given < 999999
unfolding line_fault
receipt_left ls given h none = go (not (is_some (line_of ls h.supplier)) && leb 16 (length ls)) (follows (line_of ls h.supplier) h) (leb 999999 given) refl none
  where
    go : (a b c : Bool) → leb 999999 given ≡ c → cond a (Some TooManySuppliers) (cond b (cond c (Some NoReceiptLeft) None) (Some DoesNotFollow)) ≡ None → given < 999999
    go true b c q e = absurd (some_none _ e)
    go false true true q e = absurd (some_none _ e)
    go false true false q e = leb-false 999999 given q
    go false false c q e = absurd (some_none _ e)

take_set : {X : Type 0} (n i : ℕ) (xs : List X) (x : X) → i < n → take n (set xs i x) ≡ set (take n xs) i x
take_set zero i xs x l = absurd (omega arith)
take_set (suc n) i [] x l = refl
take_set (suc n) zero (y ∷ ys) x l = refl
take_set (suc n) (suc i) (y ∷ ys) x l = ap (λ r. y ∷ r) (take_set n i ys x (omega arith))

-- one line of the array is changed
noted_is : (xs : List Line) (used at : ℕ) (l : Line) → used ≤ length xs → at ≡ place (take used xs) l.supplier → at ≤ length (take used xs) → at < length xs →
    take (max used (at + 1)) (set xs at l) ≡ noted (take used xs) l
noted_is xs used at l within is bound room = ⊎_elim old new (cases_lt at used)
  where
    long : length (take used xs) ≡ used
    long = length-take used xs ∙ omega arith

    old : at < used → take (max used (at + 1)) (set xs at l) ≡ noted (take used xs) l
    old below =
        let size : max used (at + 1) ≡ used = omega arith in
        ap (λ n. take n (set xs at l)) size
        ∙ (take_set used at xs l below ∙ (ap (λ n. set (take used xs) n l) is ∙ sym (noted_set (take used xs) l (omega (arith, is, long)))))

    new : used ≤ at → take (max used (at + 1)) (set xs at l) ≡ noted (take used xs) l
    new above =
        let here : at ≡ used = omega (arith, bound, long) in
        let size : max used (at + 1) ≡ at + 1 = omega arith in
        ap (λ n. take n (set xs at l)) size
        ∙ (take_more_set xs at l room ∙ (ap (λ n. take n xs ++ (l ∷ [])) here ∙ sym (noted_push (take used xs) l (omega (arith, is, long)))))

-- as code has it, over the front of an array
module _ (xs : List Line) (used given at : ℕ) (h : Head) (few : used ≤ 16) (long : length xs ≡ 16) (none : line_fault (take used xs) given h ≡ None)
    (o : Option ℕ) (or_next : at ≡ unwrap_or o used) (found : o ≡ position (λ l. eqb l.supplier h.supplier) (take (used - 0) xs)) where
  front : length (take used xs) ≡ used
  front = length-take used xs ∙ omega (arith, few, long)

  at_is : at ≡ place (take used xs) h.supplier
  at_is =
      let all : used - 0 ≡ used = omega arith in
      or_next
      ∙ (ap (λ q. unwrap_or q used) (found ∙ ap (λ n. position (λ l. eqb l.supplier h.supplier) (take n xs)) all)
      ∙ place_or (take used xs) h.supplier used (sym front))

  at_bound : at ≤ length (take used xs)
  at_bound = omega (arith, at_is, place_bound (take used xs) h.supplier)

  pub at_below : at < 16
  at_below = omega (arith, at_is, place_below (take used xs) given h (omega (arith, front, few)) none (omega (arith, at_is, at_bound)))

  pub noted_at : (n : ℕ) → n ≡ max used (at + 1) → take n (set xs at (line_after h)) ≡ noted (take used xs) (line_after h)
  noted_at n is = ap (λ n. take n (set xs at (line_after h))) is ∙ noted_is xs used at (line_after h) (omega (arith, few, long)) at_is at_bound (omega (arith, at_below, long))
