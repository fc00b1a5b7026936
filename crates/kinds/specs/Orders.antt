-- The orders of numbers, texts and keys of several parts: total and transitive, from the orders of the parts.
use Rattle.std.specs.Prelude.{◌≡◌, ℕ, Bool, true, false, cond, ◌==◌, nat_lt, refl}
use Rattle.std.specs.declared.cmp.Ordering.TheVariants.{Less, Equal, Greater}
use Rattle.std.specs.declared.cmp.Ordering.{Ordering}
use Rattle.std.proofs.Common.{ap}
use Rattle.std.specs.Cmp.{IsTotalOrder, nat_cmp_total, on_total}
use Rattle.std.specs.Cmp.Lexicographic.{lists_total, slice_cmp}
use Rattle.std.specs.Ordering.{is_gt, is_lt, nat_cmp}
use Rattle.std.proofs.lemmas.Bool.{eqb-true, true≢false}
use Rattle.fields.specs.declared.text.Text.{Text}
use Rattle.kinds.specs.Meaning.{Order}

abbrev pub order_of : {K : Type 0} {R : K → K → Ordering} → IsTotalOrder R → Order K
order_of {R = R} o = record { cmp = R; flip = o.antisymm; trans = o.trans; alike = o.congr }

-- byte by byte
abbrev pub text_cmp : {n : ℕ} → Text n → Text n → Ordering
text_cmp x y = slice_cmp nat_cmp x.bytes y.bytes

abbrev pub by_text : (n : ℕ) → IsTotalOrder (text_cmp {n = n})
by_text n = on_total (λ t. t.bytes) (lists_total nat_cmp_total)

-- numbers that compare as equal are
pub apart_numbers : (x y : ℕ) → nat_cmp x y ≡ Equal → x ≡ y
apart_numbers x y e = go (nat_lt x y) (x == y) refl e
  where
    go : (a b : Bool) → (x == y) ≡ b → cond a Less (cond b Equal Greater) ≡ Equal → x ≡ y
    go true b q e = absurd (true≢false (ap is_lt e))
    go false true q e = eqb-true x y q
    go false false q e = absurd (true≢false (ap is_gt e))
