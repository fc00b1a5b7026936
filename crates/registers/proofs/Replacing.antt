-- What a run holds after its steps: blocked entries to the front, the rest moved, the gap filled, the part sorted.
use Rattle.std.proofs.Common.{◌≡◌, ℕ, ◌+◌, ◌-◌, ◌≤◌, List, ◌++◌, length, take, drop, sym, ap, ◌∙◌, arith}
use borrow.Rule.Slice.PartMut.{post_of, put_mid}
use Rattle.std.proofs.lemmas.List.{append_assoc, drop_at, drop-take, length-append, length-drop, length-take, take-append-drop, take-append-le, take_at, take-take}
use Rattle.std.proofs.lemmas.Slice.{between-put_mid, drop-put_mid, take-put_mid, take-put_mid_below}
use Rattle.registers.specs.Own.{part}

-- a front in two parts
pub take_two : {X : Type 0} (a b : ℕ) (xs : List X) → take (a + b) xs ≡ take a xs ++ take b (drop a xs)
take_two a b xs =
    sym (take-append-drop a (take (a + b) xs))
    ∙ (λ i. take-take a (a + b) xs (omega arith) i ++ drop-take a b xs i)

-- a part that is written keeps the length
pub length_put : {X : Type 0} (xs ys : List X) (a k : ℕ) → length ys ≡ k → a + k ≤ length xs → length (put_mid a k xs ys) ≡ length xs
length_put xs ys a k e l =
    let p = length-append (take a xs) (ys ++ post_of a k xs) in
    let q = length-append ys (post_of a k xs) in
    omega (arith, p, q, e, length-take a xs, length-drop k (drop a xs), length-drop a xs)

-- x0 is the run before, own its part with the blocked entries in front, and x2 the run with the rest moved
module _ {X : Type 0} (x0 x2 own kept : List X) (start end used b n : ℕ)
    (first : start ≤ end) (last : end ≤ used) (within : used ≤ length x0)
    (long-own : length own ≡ end - start) (few : b ≤ end - start) (front : take b own ≡ kept)
    (room : start + b + n + (used - end) ≤ length x0) (long : length x2 ≡ length x0)
    (same : take (start + b + n) x2 ≡ take (start + b + n) (put_mid start (end - start) x0 own))
    (moved : part (start + b + n) (start + b + n + (used - end)) x2 ≡ part end used (put_mid start (end - start) x0 own)) where
  -- up to the blocked entries
  to_blocked : take (start + b) x2 ≡ take start x0 ++ kept
  to_blocked =
      let x1 = put_mid start (end - start) x0 own in
      let m = start + b + n in
      let low : start + b ≤ m = omega arith in
      let all = length-take start x0 in
      sym (take-take (start + b) m x2 low)
      ∙ (ap (take (start + b)) same
      ∙ (take-take (start + b) m x1 low
      ∙ (ap (take (start + b)) (sym (append_assoc (take start x0) own (post_of start (end - start) x0)))
      ∙ (take-append-le (start + b) (take start x0 ++ own) (post_of start (end - start) x0) (omega (arith, length-append (take start x0) own, all))
      ∙ (take_two start b (take start x0 ++ own)
      ∙ (λ i. take_at (take start x0) own start (all ∙ omega arith) i ++ take b (drop_at (take start x0) own start (all ∙ omega arith) i)))))))
      ∙ ap (λ w. take start x0 ++ w) front

  pub length_own : length (part start (start + b + n) x2) ≡ b + n
  length_own = length-take (start + b + n - start) (drop start x2) ∙ omega (arith, length-drop start x2, long)

  -- the blocked entries stand in front of the part
  pub front_is : take b (part start (start + b + n) x2) ≡ kept
  front_is =
      take-take b (start + b + n - start) (drop start x2) (omega arith)
      ∙ (sym (drop-take start b x2)
      ∙ (ap (drop start) to_blocked ∙ drop_at (take start x0) kept start (length-take start x0 ∙ omega arith)))

  to_start : take start x2 ≡ take start x0
  to_start =
      sym (take-take start (start + b) x2 (omega arith)) ∙ (ap (take start) to_blocked ∙ take_at (take start x0) kept start (length-take start x0 ∙ omega arith))

  unmoved : part end used (put_mid start (end - start) x0 own) ≡ part end used x0
  unmoved = ap (take (used - end)) (drop-put_mid start (end - start) x0 own end (omega arith) (omega arith) long-own)

  -- the part is written twice: merged, and sorted
  module _ (merged sorted : List X) (long-merged : length merged ≡ start + b + n - start) (long-sorted : length sorted ≡ start + b + n - start) where
    abbrev x3 : List X
    x3 = put_mid start (start + b + n - start) x2 merged

    pub length_x3 : length x3 ≡ length x0
    length_x3 = length_put x2 merged start (start + b + n - start) long-merged (omega arith) ∙ long

    pub part_is : part start (start + b + n) x3 ≡ merged
    part_is = between-put_mid start (start + b + n - start) x2 merged (start + b + n) (omega arith) long-merged

    pub all_is : take (start + b + n + (used - end)) (put_mid start (start + b + n - start) x3 sorted) ≡ take start x0 ++ (sorted ++ part end used x0)
    all_is =
        let x4 = put_mid start (start + b + n - start) x3 sorted in
        let l3 = length_x3 in
        let start-done : take start x3 ≡ take start x0 = take-put_mid_below start (start + b + n - start) x2 merged start (omega arith) (omega arith) ∙ to_start in
        let own-done : take (start + b + n) x4 ≡ take start x0 ++ sorted =
        take-put_mid start (start + b + n - start) x3 sorted (start + b + n) (omega (arith, long-sorted)) (omega (arith, l3)) ∙ ap (λ w. w ++ sorted) start-done in
        let rest-done : drop (start + b + n) x4 ≡ drop (start + b + n) x2 =
        drop-put_mid start (start + b + n - start) x3 sorted (start + b + n) (omega arith) (omega (arith, l3)) long-sorted
        ∙ drop-put_mid start (start + b + n - start) x2 merged (start + b + n) (omega arith) (omega arith) long-merged in
        let size : used - end ≡ start + b + n + (used - end) - (start + b + n) = omega arith in
        take_two (start + b + n) (used - end) x4
        ∙ ((λ i. own-done i ++ take (size i) (rest-done i))
        ∙ (ap (λ w. (take start x0 ++ sorted) ++ w) (moved ∙ unmoved) ∙ append_assoc (take start x0) sorted (part end used x0)))
