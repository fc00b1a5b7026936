-- What a kind of record means, and the laws that it owes.
use Rattle.std.specs.Prelude.{◌≡◌, ℕ, Bool, List, Option, Result}
use Rattle.std.specs.declared.cmp.Ordering.TheVariants.{Less, Equal}
use Rattle.std.specs.declared.cmp.Ordering.{Ordering}
use Rattle.std.specs.Ordering.{ordering_reverse}
use Rattle.fields.specs.declared.fault.FieldFault.{FieldFault}
use Rattle.fields.specs.declared.flags.KeyFlag.{KeyFlag}
use Rattle.fields.specs.declared.rule.Context.{Context}
use Rattle.fields.specs.declared.rule.Field.{Field}
use Rattle.fields.specs.Rules.{checked}
use Rattle.kinds.specs.declared.cover.Line.{Line}
use Rattle.kinds.specs.Cover.{TrueFlags, compared}
use Rattle.kinds.specs.Values.{read_as}

-- a total and transitive order
pub record Order (K : Type 0) : Type 0 where
  pub cmp : K → K → Ordering
  pub flip : (x y : K) → cmp x y ≡ ordering_reverse (cmp y x)
  pub trans : (x y z : K) → cmp x y ≡ Less → cmp y z ≡ Less → cmp x z ≡ Less
  pub alike : (x y z : K) → cmp x y ≡ Equal → cmp x z ≡ cmp y z

-- R are the records, T their told fields, N their numbers and K their order keys
pub record Meaning (R T N K : Type 0) : Type 0 where
  -- the table of a row's fields, and what its rules refer to under a head's supplier
  pub table : List Field
  pub context : ℕ → List ℕ → Context
  -- what the columns of a row say, whether they keep their rules or not
  pub values : ℕ → List ℕ → R
  pub supplier : R → ℕ
  -- the number, in an order that tells any two numbers apart
  pub number : R → N
  pub numbers : Order N
  pub apart : (x y : N) → numbers.cmp x y ≡ Equal → x ≡ y
  -- the number as a fault tells it
  pub record_number : N → ℕ
  pub key_flag : R → KeyFlag
  pub told : R → T
  pub order : R → K
  -- the cover table, and its marks between an older record's told fields and a newer record
  pub lines : List Line
  pub marks : T → R → List Bool
  -- the older told fields, with the covered fields of every flag 3 replaced from the newer record
  pub takes : T → R → T
  -- law 1: taking over under true flags gives all told fields of the newer record
  pub takes_all : (t : T) (r : R) → TrueFlags lines (marks t r) → takes t r ≡ told r
  -- law 2: the file order is total and transitive
  pub file_order : Order K

-- what a row is read as: its values where every field keeps its rule, else the first field fault
abbrev pub reads : {R T N K : Type 0} → Meaning R T N K → ℕ → List ℕ → Result R FieldFault
reads m s row = read_as (m.values s row) (checked (m.context s row) row m.table)

-- the comparison of an older record's told fields with a newer record
abbrev pub compares : {R T N K : Type 0} → Meaning R T N K → T → R → Option ℕ
compares m t r = compared (m.key_flag r) m.lines (m.marks t r)
