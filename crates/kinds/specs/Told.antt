-- Equal values do not differ.
use Rattle.std.proofs.Common.{◌≡◌, ℕ, Bool, true, false, sym, refl}
use Rattle.std.proofs.lemmas.Slice.Eq.{bytes_eq-Decides}
use Rattle.std.proofs.lemmas.Bool.{eq-eqb, not_from_true}
use Rattle.fields.specs.declared.text.Text.{Text}
use Rattle.kinds.specs.Values.{numbers_differ, signs_differ, texts_differ}

pub text_same : {n : ℕ} (a b : Text n) → a ≡ b → texts_differ a b ≡ false
text_same a b e = not_from_true _ ((bytes_eq-Decides a.bytes b.bytes).1 (λ i. (e i).bytes))

pub number_same : (a b : ℕ) → a ≡ b → numbers_differ a b ≡ false
number_same a b e = not_from_true _ (eq-eqb a b e)

pub sign_same : (a b : Bool) → a ≡ b → signs_differ a b ≡ false
sign_same true true e = refl
sign_same true false e = e
sign_same false true e = sym e
sign_same false false e = refl
