-- The order of ids: by supplier, and then by number.
use Rattle.std.specs.declared.cmp.Ordering.{Ordering}
use Rattle.std.specs.Cmp.{IsTotalOrder, nat_cmp_total, on_total, then_total}
use Rattle.std.specs.Ordering.{ordering_then, nat_cmp}
use Rattle.kinds.specs.Meaning.{Order}
use Rattle.registers.specs.declared.entry.Id.{Id}

-- by supplier, and then as R compares numbers
abbrev pub id_cmp : {N : Type 0} → (N → N → Ordering) → Id N → Id N → Ordering
id_cmp R x y = ordering_then (nat_cmp x.supplier y.supplier) (R x.number y.number)

abbrev pub by_id : {N : Type 0} {R : N → N → Ordering} → IsTotalOrder R → IsTotalOrder (id_cmp R)
by_id o = then_total (on_total (λ i. i.supplier) nat_cmp_total) (on_total (λ i. i.number) o)

-- the order of ids by the order of numbers
abbrev pub compare_ids : {N : Type 0} → Order N → Id N → Id N → Ordering
compare_ids o = id_cmp o.cmp
