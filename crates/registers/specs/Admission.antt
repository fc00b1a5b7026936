-- What a register refuses of a file, and what it holds after it.
use Rattle.std.specs.Prelude.{◌≡◌, ℕ, zero, suc, ◌+◌, ◌≤◌, Bool, false, cond, not, ◌&&◌, ◌||◌, List, [], ◌∷◌, ◌++◌, map, length, Some, None, filter, Option, Result, MatchResult, nat_le}
use Rattle.std.specs.declared.cmp.Ordering.{Ordering}
use Rattle.std.specs.List.{range_with_len}
use Rattle.std.specs.Option.{option_map}
use Rattle.std.specs.Ordering.{is_eq, is_lt}
use Rattle.std.specs.List.Sorted.{IsPermutation}
use Rattle.fields.specs.declared.flags.KeyFlag.{KeyFlag}
use Rattle.fields.specs.declared.flags.KeyFlag.TheVariants.{NoAmendment, New, Deletion}
use Rattle.fields.specs.Flags.{stays}
use Rattle.kinds.specs.Meaning.{Meaning, compares}
use Rattle.files.specs.First.{first, or_else}
use Rattle.registers.specs.declared.entry.Entry.{Entry}
use Rattle.registers.specs.declared.entry.Id.{Id}
use Rattle.registers.specs.declared.entry.Standing.{Standing}
use Rattle.registers.specs.declared.entry.Standing.TheVariants.{Live, Retired}
use Rattle.registers.specs.declared.fault.EntryFault.{EntryFault}
use Rattle.registers.specs.declared.fault.EntryFault.TheVariants.{Blocked, WrongKeyFlag, Untrue}
use Rattle.registers.specs.declared.fault.RegisterFault.{RegisterFault}
use Rattle.registers.specs.declared.fault.RegisterFault.TheVariants.{Row, Missing}
use Rattle.registers.specs.Entries.{Ascending, is_blocked, is_live, is_own, standing, stays_blocked}
use Rattle.registers.specs.Ids.{compare_ids}

-- the lowest number among the entries that pass a test
abbrev pub lower : {N : Type 0} → (N → N → Ordering) → N → Option N → N
lower cmp n None = n
lower cmp n (Some k) = cond (is_lt (cmp k n)) k n

abbrev pub lowest : {N T : Type 0} → (N → N → Ordering) → (Entry N T → Bool) → List (Entry N T) → Option N
lowest cmp p [] = None
lowest cmp p (e ∷ es) = cond (p e) (Some (lower cmp e.id.number (lowest cmp p es))) (lowest cmp p es)

abbrev pub at_row : ℕ × EntryFault → RegisterFault
at_row p = Row (p.0 + 1) p.1

-- a number that is not live takes key flag 1 alone
abbrev pub unless_new : KeyFlag → ℕ → Option EntryFault
unless_new NoAmendment n = Some (WrongKeyFlag n)
unless_new New n = None
unless_new Deletion n = Some (WrongKeyFlag n)

-- a live number takes key flags 0 and 2, where the comparison with what stands finds nothing untrue
abbrev pub while_live : KeyFlag → ℕ → Option ℕ → Option EntryFault
while_live NoAmendment n untrue = option_map (λ f. Untrue f n) untrue
while_live New n untrue = Some (WrongKeyFlag n)
while_live Deletion n untrue = option_map (λ f. Untrue f n) untrue

-- m is what the kind means
module _ {R T N K : Type 0} (m : Meaning R T N K) where
  abbrev pub told_number : R → ℕ
  told_number r = m.record_number (m.number r)

  -- what a row is refused for in a year, beside what stands under its number: 14, 15, 16
  abbrev pub beside : ℕ → R → Option (Standing T) → Option EntryFault
  beside year r None = unless_new (m.key_flag r) (told_number r)
  beside year r (Some (Live t)) = while_live (m.key_flag r) (told_number r) (compares m t r)
  beside year r (Some (Retired y)) =
      cond (is_blocked {T = T} year (Retired y)) (Some (Blocked (told_number r))) (unless_new (m.key_flag r) (told_number r))

  -- the entry that a supplier's record makes: live, or retired in the year of the first day
  abbrev pub entry_of : ℕ → ℕ → R → Entry N T
  entry_of s year r =
      record {
        id = record { supplier = s; number = m.number r };
        standing = cond (stays (m.key_flag r)) (Live (m.told r)) (Retired year);
      }

  -- s is the supplier, and r k the record in row k
  module _ (s : ℕ) (r : ℕ → R) where
    abbrev pub row_id : ℕ → Id N
    row_id k = record { supplier = s; number = m.number (r k) }

    abbrev pub row_entry : ℕ → ℕ → Entry N T
    row_entry year k = entry_of s year (r k)

    -- one of the first n rows has the number
    abbrev pub has_row : ℕ → N → Bool
    has_row zero x = false
    has_row (suc k) x = has_row k x || is_eq (m.numbers.cmp (m.number (r k)) x)

    -- a live number of the supplier that none of n rows has
    abbrev pub is_missing : ℕ → Entry N T → Bool
    is_missing n e = is_own s e && (is_live e.standing && not (has_row n e.id.number))

    -- es are the entries
    module _ (es : List (Entry N T)) where
      -- what row k is refused for in a year
      abbrev pub row_refusal : ℕ → ℕ → Option EntryFault
      row_refusal year k = beside year (r k) (standing (compare_ids m.numbers) es (row_id k))

      abbrev pub rows_refusal : ℕ → ℕ → Option RegisterFault
      rows_refusal year n = option_map at_row (first (row_refusal year) n)

      abbrev pub missing_refusal : ℕ → Option RegisterFault
      missing_refusal n = option_map (λ x. Missing (m.record_number x)) (lowest m.numbers.cmp (is_missing n) es)

      -- of n rows 14, 15 and 16 row by row, and then 17
      unfoldable pub register_fault : ℕ → ℕ → Option RegisterFault
      register_fault year n = or_else (rows_refusal year n) (missing_refusal n)

      -- other suppliers' entries, the rows, and this supplier's numbers that are still blocked
      unfoldable pub entries_after : ℕ → ℕ → List (Entry N T)
      entries_after year n =
          filter (λ e. not (is_own s e)) es
          ++ (map (row_entry year) (range_with_len 0 n) ++ filter (λ e. is_own s e && stays_blocked year e) es)

      -- n rows of which none is refused, where so many entries stay beside them
      pub record Passes (year n stay : ℕ) : Type 0 where
        pub none : register_fault year n ≡ None
        pub stays : stay + n ≡ length (entries_after year n)
        pub few : stay ≤ length es

      -- the verdict on n rows: whether the entries after them fit a room, or the first fault
      abbrev pub Judged : ℕ → ℕ → ℕ → Result Bool RegisterFault → Type 0
      Judged year n room r =
          MatchResult r (λ fits. (register_fault year n ≡ None) × (fits ≡ nat_le (length (entries_after year n)) room)) (λ e. register_fault year n ≡ Some e)

      -- what the entries are after n rows: those that the rules define, in whatever order, and ascending again
      pub record Entered (year n : ℕ) (after : List (Entry N T)) : Type 0 where
        pub shuffled : IsPermutation (entries_after year n) after
        pub ascending : Ascending m.numbers after
