-- What a field's bytes are and what they count. A byte is a character of ISO-8859-1, and columns count from 1.
use Rattle.std.specs.Prelude.{ℕ, zero, suc, ◌+◌, ◌-◌, ◌*◌, ◌/◌, ◌%◌, Bool, true, cond, ◌&&◌, ◌||◌, List, [], ◌∷◌, ◌++◌, length, take, drop, replicate, ◌==◌, nat_eq, nat_le}
use Rattle.std.specs.List.{suffix_len}
use Rattle.fields.specs.declared.class.Class.{Class}
use Rattle.fields.specs.declared.class.Class.TheVariants.{Digit, Letter, Plain, Printable, Only}

-- the bytes in the columns first to last; fewer, where the row ends before the last
unfoldable pub columns : ℕ → ℕ → List ℕ → List ℕ
columns first last row = take (last + 1 - first) (drop (first - 1) row)

-- the bytes of a class
abbrev pub has : Class → ℕ → Bool
has Digit b = nat_le 48 b && nat_le b 57
has Letter b = nat_le 65 b && nat_le b 90
has Plain b = nat_le 32 b && nat_le b 126
has Printable b = (nat_le 32 b && nat_le b 126) || nat_le 160 b
has (Only c) b = b == c

abbrev pub every : Class → List ℕ → Bool
every k [] = true
every k (b ∷ bs) = has k b && every k bs

abbrev pub blank : List ℕ → Bool
blank bs = every (Only 32) bs

-- ten times what is before, and the digit; a blank counts as the digit 0, since 32 - 48 is 0
abbrev pub value_after : ℕ → List ℕ → ℕ
value_after n [] = n
value_after n (b ∷ bs) = value_after (n * 10 + (b - 48)) bs

-- the number that the digits write
unfoldable pub value : List ℕ → ℕ
value bs = value_after 0 bs

-- a number of at most so many digits, with zeros in front
abbrev pub padded : ℕ → ℕ → List ℕ
padded zero n = []
padded (suc w) n = padded w (n / 10) ++ ((48 + n % 10) ∷ [])

-- the text of n columns: the first n bytes, or blanks where there are fewer
unfoldable pub text : ℕ → List ℕ → List ℕ
text n bs = cond (nat_le n (length bs)) (take n bs) (replicate n 32)

-- a text without the blanks at its end
unfoldable pub trimmed : List ℕ → List ℕ
trimmed bs = take (length bs - suffix_len (λ b. nat_eq b 32) bs) bs
