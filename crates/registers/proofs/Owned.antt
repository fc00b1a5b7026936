-- What the two places where a supplier's entries begin and end say of the whole list.
use Rattle.std.proofs.Common.{◌≡◌, ℕ, ◌≤◌, max, true, false, leb, ltb, List, length, get_or, arith}
use Rattle.std.specs.List.Sorted.{IsPartitionPoint}
use Rattle.std.proofs.lemmas.Bool.{leb-false, leb-true, ltb-false, ltb-true}
use Rattle.registers.specs.declared.entry.Entry.{Entry}
use Rattle.registers.specs.Own.{OwnPart}

pub own_between : {N T : Type 0} (es : List (Entry N T)) (s start end last : ℕ) → end ≤ length es → last ≡ max end start →
    IsPartitionPoint (λ e. ltb e.id.supplier s ≡ true) (λ e. ltb e.id.supplier s ≡ false) es start →
    IsPartitionPoint (λ e. leb e.id.supplier s ≡ true) (λ e. leb e.id.supplier s ≡ false) es end → OwnPart es s start last
own_between es s start end last within is_last a b =
    record {
      before = λ k d z l. ltb-true (get_or es k d).id.supplier s (a.0 k d z l);
      own = λ k d z l. omega (arith, ltb-false (get_or es k d).id.supplier s (a.1 k d z (omega arith)), leb-true (get_or es k d).id.supplier s (b.0 k d (omega arith) (omega arith)));
      after = λ k d z l. leb-false (get_or es k d).id.supplier s (b.1 k d (omega arith) l);
    }
