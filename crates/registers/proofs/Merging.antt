-- A merge from the back: what stands in front, what is still to come, and what stands behind are together what is to be.
use Rattle.std.proofs.Common.{◌≡◌, ℕ, ◌+◌, ◌-◌, ◌<◌, ◌≤◌, List, [], ◌∷◌, ◌++◌, map, length, get_or, take, drop, set, sym, refl, ap, ◌∙◌, subst, arith}
use Rattle.std.specs.List.Sorted.{IsPermutation}
use Rattle.std.proofs.lemmas.List.{append_assoc, append-nil, drop_all, drop-set, length-set, map_more, take_all, take-append-drop, take_more, take-set-le}
use Rattle.std.proofs.lemmas.List.Sorted.{IsPermutation-refl, IsPermutation-trans}
use Rattle.registers.proofs.Shuffles.{middle, shuffled_after}

-- of the elements of own before, the first `blocked` and what f makes of all ps are to stand in own; the first b are
-- still in front, f of the first j of ps is still to come, and the rest stands behind
pub record Merging {X Y : Type 0} (f : X → Y) (ps : List X) (own : List Y) (blocked : ℕ) (now : List Y) (b j : ℕ) : Type 0 where
  pub long : length now ≡ length own
  pub room : b + j ≤ length own
  pub left : j ≤ length ps
  pub same : IsPermutation (take blocked own ++ map f ps) (take b now ++ (map f (take j ps) ++ drop (b + j) now))

module _ {X Y : Type 0} (f : X → Y) (ps : List X) (own : List Y) (blocked : ℕ) where
  pub merging_none : length own ≡ blocked + length ps → Merging f ps own blocked own blocked (length ps)
  merging_none whole =
      let all : take blocked own ++ map f ps ≡ take blocked own ++ (map f (take (length ps) ps) ++ drop (blocked + length ps) own) =
      ap (λ w. take blocked own ++ w)
      (sym (append-nil (map f ps)) ∙ (λ i. map f (sym (take_all (length ps) ps (omega arith)) i) ++ sym (drop_all (blocked + length ps) own (omega (arith, whole))) i)) in
      record {
        long = refl;
        room = omega (arith, whole);
        left = omega arith;
        same = subst (λ w. IsPermutation (take blocked own ++ map f ps) w) all (IsPermutation-refl (take blocked own ++ map f ps));
      }

  module _ (now next : List Y) (b j : ℕ) (h : Merging f ps own blocked now b j) (more : 0 < j) where
    behind : (x : Y) → drop (b + j - 1) (set now (b + j - 1) x) ≡ x ∷ drop (b + j) now
    behind x =
        let size : b + j - 1 + 1 ≡ b + j = omega arith in
        drop-set now (b + j - 1) x (omega (arith, h.room, h.long)) ∙ ap (λ n. x ∷ drop n now) size

    -- the last in front moves behind
    pub merging_front : (x d : Y) → 0 < b → x ≡ get_or now (b - 1) d → next ≡ set now (b + j - 1) x → Merging f ps own blocked next (b - 1) j
    merging_front x d some is e =
        let m = map f (take j ps) in
        let front : take b now ≡ take (b - 1) now ++ (x ∷ []) =
        ap (λ n. take n now) (omega arith) ∙ (take_more now (b - 1) d (omega (arith, h.room, h.long)) ∙ ap (λ w. take (b - 1) now ++ (w ∷ [])) (sym is)) in
        let lines : take b now ++ (m ++ drop (b + j) now) ≡ take (b - 1) now ++ (x ∷ (m ++ drop (b + j) now)) =
        ap (λ w. w ++ (m ++ drop (b + j) now)) front ∙ append_assoc (take (b - 1) now) (x ∷ []) (m ++ drop (b + j) now) in
        let after : take (b - 1) next ++ (m ++ drop (b - 1 + j) next) ≡ take (b - 1) now ++ (m ++ (x ∷ drop (b + j) now)) =
        λ i. (ap (take (b - 1)) e ∙ take-set-le (b - 1) now (b + j - 1) x (omega arith)) i
        ++ (m ++ (ap (λ w. drop (b - 1 + j) w) e ∙ (ap (λ n. drop n (set now (b + j - 1) x)) (omega arith) ∙ behind x)) i) in
        record {
          long = ap length e ∙ (length-set now (b + j - 1) x ∙ h.long);
          room = omega (arith, h.room);
          left = h.left;
          same = IsPermutation-trans (take blocked own ++ map f ps) (take (b - 1) now ++ (x ∷ (m ++ drop (b + j) now))) (take (b - 1) next ++ (m ++ drop (b - 1 + j) next))
              (subst (λ w. IsPermutation (take blocked own ++ map f ps) w) lines h.same)
              (subst (λ w. IsPermutation (take (b - 1) now ++ (x ∷ (m ++ drop (b + j) now))) w) (sym after)
              (shuffled_after (take (b - 1) now) (x ∷ (m ++ drop (b + j) now)) (m ++ (x ∷ drop (b + j) now)) (middle x m (drop (b + j) now))));
        }

    -- the last to come is written
    pub merging_row : (x : Y) (p : X) → x ≡ f (get_or ps (j - 1) p) → next ≡ set now (b + j - 1) x → Merging f ps own blocked next b (j - 1)
    merging_row x p made e =
        let m = map f (take (j - 1) ps) in
        let come : map f (take j ps) ≡ m ++ (x ∷ []) =
        ap (λ n. map f (take n ps)) (omega arith) ∙ (map_more f ps (j - 1) p (omega (arith, h.left)) ∙ ap (λ w. m ++ (w ∷ [])) (sym made)) in
        let after : take b next ++ (m ++ drop (b + (j - 1)) next) ≡ take b now ++ (map f (take j ps) ++ drop (b + j) now) =
        (λ i. (ap (take b) e ∙ take-set-le b now (b + j - 1) x (omega arith)) i
        ++ (m ++ (ap (λ w. drop (b + (j - 1)) w) e ∙ (ap (λ n. drop n (set now (b + j - 1) x)) (omega arith) ∙ behind x)) i))
        ∙ ap (λ w. take b now ++ w) (sym (append_assoc m (x ∷ []) (drop (b + j) now)) ∙ ap (λ w. w ++ drop (b + j) now) (sym come)) in
        record {
          long = ap length e ∙ (length-set now (b + j - 1) x ∙ h.long);
          room = omega (arith, h.room);
          left = omega (arith, h.left);
          same = subst (λ w. IsPermutation (take blocked own ++ map f ps) w) (sym after) h.same;
        }

  pub merging_all : (now : List Y) (b j : ℕ) → j ≤ 0 → Merging f ps own blocked now b j → IsPermutation (take blocked own ++ map f ps) now
  merging_all now b j done h =
      let none : j ≡ 0 = omega arith in
      let size : b + j ≡ b = omega arith in
      subst (λ w. IsPermutation (take blocked own ++ map f ps) w)
      ((λ i. take b now ++ (map f (take (none i) ps) ++ drop (size i) now)) ∙ take-append-drop b now) h.same
