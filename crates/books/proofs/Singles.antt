-- One line a supplier, also after an admission.
use Rattle.std.proofs.Common.{◌≡◌, Bool, true, false, cond, eqb, List, [], ◌∷◌, refl, subst}
use Rattle.std.specs.List.{IsDistinct, AllByRecursion}
use Rattle.std.proofs.lemmas.Bool.{eqb-true}
use Rattle.books.specs.declared.lines.Line.{Line}
use Rattle.books.specs.Lines.{SingleLines, noted}

alike : Line → Line → Bool
alike x y = eqb x.supplier y.supplier

pub none_single : SingleLines []
unfolding IsDistinct
none_single = tt

-- what holds of the lines and of the new one holds of all lines after
noted_all : (P : Line → Type 0) (ls : List Line) (l : Line) → AllByRecursion P ls → P l → AllByRecursion P (noted ls l)
noted_all P [] l h p = (p, tt)
noted_all P (x ∷ ls) l h p = go (eqb x.supplier l.supplier) (noted_all P ls l h.1 p)
  where
    go : (b : Bool) → AllByRecursion P (noted ls l) → AllByRecursion P (cond b (l ∷ ls) (x ∷ noted ls l))
    go true r = (p, h.1)
    go false r = (h.0, r)

pub noted_single : (ls : List Line) (l : Line) → SingleLines ls → SingleLines (noted ls l)
unfolding IsDistinct
noted_single [] l h = (tt, tt)
noted_single (x ∷ ls) l h = go (eqb x.supplier l.supplier) refl (noted_single ls l h.1) (λ e. noted_all (λ y. eqb x.supplier y.supplier ≡ false) ls l h.0 e)
  where
    go : (b : Bool) → eqb x.supplier l.supplier ≡ b → IsDistinct (λ x y. eqb x.supplier y.supplier) (noted ls l) →
        (eqb x.supplier l.supplier ≡ false → AllByRecursion (λ y. eqb x.supplier y.supplier ≡ false) (noted ls l)) →
        IsDistinct (λ x y. eqb x.supplier y.supplier) (cond b (l ∷ ls) (x ∷ noted ls l))
    go true e r above = (subst (λ n. AllByRecursion (λ y. eqb n y.supplier ≡ false) ls) (eqb-true x.supplier l.supplier e) h.0, h.1)
    go false e r above = (above e, r)
