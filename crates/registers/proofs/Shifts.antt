-- Parts of lists, and where elements stand after a part was copied.
use Rattle.std.proofs.Common.{◌≡◌, ℕ, ◌+◌, ◌-◌, ◌≤◌, List, ◌++◌, length, take, drop, sym, ap, ◌∙◌, arith}
use Rattle.std.specs.List.{copy_within}
use Rattle.std.proofs.lemmas.List.{drop_at, drop-take, length-drop, length-take, take_at, take-take}
use Rattle.std.proofs.lemmas.List.Edits.{take-paste}
use Rattle.registers.specs.Own.{part}

pub length_of_part : {X : Type 0} (xs : List X) (a b : ℕ) → b ≤ length xs → length (part a b xs) ≡ b - a
length_of_part xs a b l = length-take (b - a) (drop a xs) ∙ omega (arith, length-drop a xs)

-- a part of a front is the part of the whole
pub part_take : {X : Type 0} (xs : List X) (start end used : ℕ) → start ≤ end → end ≤ used → part start end (take used xs) ≡ part start end xs
part_take xs start end used l h =
    let split : used ≡ start + (used - start) = omega arith in
    ap (λ n. take (end - start) (drop start (take n xs))) split
    ∙ (ap (take (end - start)) (drop-take start (used - start) xs) ∙ take-take (end - start) (used - start) (drop start xs) (omega arith))

-- a part copied to another place: what stands below, and the part
module _ {X : Type 0} (xs : List X) (from until to : ℕ) (ends : from ≤ until) (within : until ≤ length xs) (room : to + (until - from) ≤ length xs) where
  up_to : take (to + (until - from)) (copy_within xs from until to) ≡ take to xs ++ take (until - from) (drop from xs)
  up_to = take-paste xs to (drop from xs) (until - from) (omega arith) (omega (arith, length-drop from xs))

  below : length (take to xs) ≡ to
  below = length-take to xs ∙ omega arith

  pub copied_front : take to (copy_within xs from until to) ≡ take to xs
  copied_front =
      sym (take-take to (to + (until - from)) (copy_within xs from until to) (omega arith))
      ∙ (ap (take to) up_to ∙ take_at (take to xs) (take (until - from) (drop from xs)) to below)

  pub copied : part to (to + (until - from)) (copy_within xs from until to) ≡ part from until xs
  copied =
      let size : to + (until - from) - to ≡ until - from = omega arith in
      ap (λ k. take k (drop to (copy_within xs from until to))) size
      ∙ (sym (drop-take to (until - from) (copy_within xs from until to))
      ∙ (ap (drop to) up_to ∙ drop_at (take to xs) (take (until - from) (drop from xs)) to below))
