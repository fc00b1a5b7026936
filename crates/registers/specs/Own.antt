-- Where the entries of a supplier stand.
use Rattle.std.specs.Prelude.{◌≡◌, ℕ, ◌+◌, ◌-◌, ◌<◌, ◌≤◌, List, ◌++◌, length, take, drop, count_by, Option, MatchOption}
use Rattle.std.specs.declared.cmp.Ordering.{Ordering}
use Rattle.std.specs.List.{AllWithin}
use Rattle.std.specs.List.Sorted.{IsNonDecreasingBy, IsSortedWithin, IsPermutation, IsStrictlySortedBy}
use Rattle.std.specs.Cmp.{IsTotalOrder}
use Rattle.std.specs.Ordering.{is_lt}
use Rattle.registers.specs.declared.entry.Entry.{Entry}
use Rattle.registers.specs.Entries.{ids, stays_blocked}
use Rattle.registers.specs.Ids.{id_cmp}

abbrev pub BySupplier : {N T : Type 0} → List (Entry N T) → Type 0
BySupplier es = IsNonDecreasingBy (λ e. e.id.supplier) es

-- from start up to end are exactly the supplier's entries
pub record OwnPart {N T : Type 0} (es : List (Entry N T)) (supplier start end : ℕ) : Type 0 where
  pub before : AllWithin (λ e. e.id.supplier < supplier) es 0 start
  pub own : AllWithin (λ e. e.id.supplier ≡ supplier) es start end
  pub after : AllWithin (λ e. supplier < e.id.supplier) es end (length es)

-- the elements from start up to end
abbrev pub part : {X : Type 0} → ℕ → ℕ → List X → List X
part start end xs = take (end - start) (drop start xs)

-- where a supplier's entries stand, and how many entries stay beside its next file
pub record Staying {N T : Type 0} (es : List (Entry N T)) (supplier year start end stay : ℕ) : Type 0 where
  pub first : start ≤ end
  pub last : end ≤ length es
  pub own : BySupplier es → OwnPart es supplier start end
  pub count : stay ≡ length es - length (part start end es) + count_by (stays_blocked year) (part start end es)
  pub few : stay ≤ length es

-- in the first used entries those from start up to end gave way to fresh ones, which ascend now; r entries are used then
pub record Replaced {N T : Type 0} (P : N → N → Ordering) (xs ys : List (Entry N T)) (start end used : ℕ) (fresh : List (Entry N T)) (r : ℕ) : Type 0 where
  pub own : List (Entry N T)
  pub shuffled : IsPermutation fresh own
  pub ascends : (o : IsTotalOrder P) → IsSortedWithin (λ x y. is_lt (id_cmp P x.id y.id)) own 0 (length own)
  pub all : take r ys ≡ take start xs ++ (own ++ part end used xs)
  pub count : r ≡ start + length fresh + (used - end)

-- as above, and whether the fresh entries are apart: then r entries are used, and none where a number stands twice
pub record Renewed {N T : Type 0} (P : N → N → Ordering) (xs ys : List (Entry N T)) (start end used : ℕ) (fresh : List (Entry N T)) (r : Option ℕ) : Type 0 where
  pub count : ℕ
  pub replaced : Replaced P xs ys start end used fresh count
  pub single : IsTotalOrder P → MatchOption r (IsStrictlySortedBy (id_cmp P) (ids replaced.own) → ⊥) (λ n. (n ≡ count) × IsStrictlySortedBy (id_cmp P) (ids replaced.own))
