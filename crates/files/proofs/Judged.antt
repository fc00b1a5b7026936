-- The order by which a kind's meaning compares is the order by which code does.
use Rattle.std.proofs.Common.{◌≡◌, Ordering, sym, refl, subst}
use Rattle.std.specs.Cmp.{IsTotalOrder}
use Rattle.kinds.specs.Meaning.{Order}

-- an order of a kind's meaning is the order by which code compares
pub one_order : {K : Type 0} (o : Order K) {P : K → K → Ordering} → ((x y : K) (r : Ordering) → r ≡ P x y → r ≡ o.cmp x y) → o.cmp ≡ P
one_order o {P} says i x y = sym (says x y (P x y) refl) i

pub total_of : {K : Type 0} (o : Order K) {P : K → K → Ordering} → ((x y : K) (r : Ordering) → r ≡ P x y → r ≡ o.cmp x y) → IsTotalOrder P
total_of o says = subst IsTotalOrder (one_order o says) (record { antisymm = o.flip; trans = o.trans; congr = o.alike })
