-- Taking over gives the newer value of a field, if its flag counts 3 where the field differs.
use Rattle.std.specs.Prelude.{◌≡◌, ℕ, Bool, true, false, ◌&&◌, ◌||◌, List, [], ◌∷◌, refl}
use Rattle.std.proofs.Common.{sym, ◌∙◌}
use Rattle.std.proofs.lemmas.Slice.Eq.{bytes_eq-Decides}
use Rattle.std.proofs.lemmas.Bool.{eqb-true, not-false, true≢false}
use Rattle.fields.specs.declared.text.Text.{Text}
use Rattle.kinds.specs.declared.cover.Line.{Line}
use Rattle.kinds.specs.Cover.{EachMark, covered_by, differs_under}
use Rattle.kinds.specs.Values.{numbers_differ, signs_differ, taken, texts_differ}

-- where the flag counts 0 the field does not differ
abbrev pub Reaches : Bool → Bool → Type 0
Reaches flag mark = flag ≡ false → mark ≡ false

pub same_text : {n : ℕ} (a b : Text n) → texts_differ a b ≡ false → a ≡ b
same_text a b e =
    let same = (bytes_eq-Decides a.bytes b.bytes).0 (not-false _ e) in
    λ i. record { bytes = same i }

pub same_number : (a b : ℕ) → numbers_differ a b ≡ false → a ≡ b
same_number a b e = eqb-true a b (not-false _ e)

pub same_sign : (a b : Bool) → signs_differ a b ≡ false → a ≡ b
same_sign true true e = refl
same_sign true false e = e
same_sign false true e = sym e
same_sign false false e = refl

-- with same for a kind of value, the newer value is taken where it differs
pub takes : {A : Type 0} (differ : A → A → Bool) → ((a b : A) → differ a b ≡ false → a ≡ b) →
    (flag : Bool) (newer older : A) → Reaches flag (differ older newer) → taken flag newer older ≡ newer
takes differ same true newer older h = refl
takes differ same false newer older h = same older newer (h refl)

pub takes_text : {n : ℕ} (flag : Bool) (newer older : Text n) → Reaches flag (texts_differ older newer) → taken flag newer older ≡ newer
takes_text = takes texts_differ same_text

pub takes_number : (flag : Bool) (newer older : ℕ) → Reaches flag (numbers_differ older newer) → taken flag newer older ≡ newer
takes_number = takes numbers_differ same_number

pub takes_sign : (flag newer older : Bool) → Reaches flag (signs_differ older newer) → taken flag newer older ≡ newer
takes_sign = takes signs_differ same_sign

-- a true flag that counts 0 covers no field that differs
abbrev pub Spared : ℕ → List Line → List Bool → Type 0
Spared f ls ms = EachMark (λ l m. covered_by f l.cover ≡ true → m ≡ false) ls ms

pub spares : (flag : Bool) (f : ℕ) (ls : List Line) (ms : List Bool) → flag ≡ differs_under f ls ms → flag ≡ false → Spared f ls ms
spares flag f ls ms e z = go ls ms (sym e ∙ z)
  where
    here : (c m rest : Bool) → ((c && m) || rest) ≡ false → c ≡ true → m ≡ false
    here true true rest e k = e
    here true false rest e k = refl
    here false m rest e k = absurd (true≢false (sym k))

    past : (a rest : Bool) → (a || rest) ≡ false → rest ≡ false
    past true rest e = absurd (true≢false e)
    past false rest e = e

    go : (ls : List Line) (ms : List Bool) → differs_under f ls ms ≡ false → Spared f ls ms
    go [] ms e = tt
    go (l ∷ ls) [] e = tt
    go (l ∷ ls) (m ∷ ms) e = (here (covered_by f l.cover) m _ e, go ls ms (past _ _ e))
