-- What flags count: a blank one counts as 0.
use Rattle.std.specs.Prelude.{ℕ, Bool, true, false, cond, List, ◌==◌}
use Rattle.fields.specs.Bytes.{value}
use Rattle.fields.specs.declared.flags.KeyFlag.{KeyFlag}
use Rattle.fields.specs.declared.flags.KeyFlag.TheVariants.{NoAmendment, New, Deletion}

abbrev pub key_flag_of : ℕ → KeyFlag
key_flag_of n = cond (n == 1) New (cond (n == 2) Deletion NoAmendment)

unfoldable pub key_flag : List ℕ → KeyFlag
key_flag bs = key_flag_of (value bs)

-- key flag 0 or 1: the record is there from the first day on
abbrev pub stays : KeyFlag → Bool
stays NoAmendment = true
stays New = true
stays Deletion = false

-- an amendment flag that counts 3
unfoldable pub amended : List ℕ → Bool
amended bs = value bs == 3
