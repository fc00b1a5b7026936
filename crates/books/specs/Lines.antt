-- The lines of a book: which delivery follows which, and what an admission notes.
use Rattle.std.specs.Prelude.{ℕ, suc, ◌+◌, Bool, cond, not, ◌&&◌, ◌||◌, List, [], ◌∷◌, length, is_some, Some, None, Option, ◌==◌, nat_le}
use Rattle.std.specs.Ordering.{is_lt, ordering_then, nat_cmp}
use Rattle.std.specs.List.{IsDistinct}
use Rattle.fields.specs.declared.date.Date.{Date}
use Rattle.deliveries.specs.declared.head.Head.{Head}
use Rattle.books.specs.declared.fault.LineFault.{LineFault}
use Rattle.books.specs.declared.fault.LineFault.TheVariants.{TooManySuppliers, DoesNotFollow, NoReceiptLeft}
use Rattle.books.specs.declared.lines.Line.{Line}

-- by year, month and day
abbrev pub earlier : Date → Date → Bool
earlier x y = is_lt (ordering_then (nat_cmp x.year y.year) (ordering_then (nat_cmp x.month y.month) (nat_cmp x.day y.day)))

abbrev pub same_day : Date → Date → Bool
same_day x y = x.year == y.year && (x.month == y.month && x.day == y.day)

-- a later day with version 01, or the same day with the next version
abbrev pub follows_line : Line → Head → Bool
follows_line l h =
    (earlier l.first_day h.first_day && h.version == 1)
    || (same_day l.first_day h.first_day && h.version == l.version + 1)

-- a supplier without a line may start with any day and version 01
abbrev pub follows : Option Line → Head → Bool
follows None h = h.version == 1
follows (Some l) h = follows_line l h

-- the line of a supplier
abbrev pub line_of : List Line → ℕ → Option Line
line_of [] s = None
line_of (l ∷ ls) s = cond (l.supplier == s) (Some l) (line_of ls s)

-- 11, 12 and 13, by the supplier's line, whether all lines are in use, and the receipts given
abbrev pub judged_line : Option Line → Bool → ℕ → Head → Option LineFault
judged_line line full given h =
    cond (not (is_some line) && full) (Some TooManySuppliers)
    (cond (follows line h) (cond (nat_le 999999 given) (Some NoReceiptLeft) None) (Some DoesNotFollow))

unfoldable pub line_fault : List Line → ℕ → Head → Option LineFault
line_fault ls given h = judged_line (line_of ls h.supplier) (nat_le 16 (length ls)) given h

-- what a line says after an admission
abbrev pub line_after : Head → Line
line_after h = record { supplier = h.supplier; first_day = h.first_day; version = h.version }

-- a supplier's line is set, or follows the others; these stay
abbrev pub noted : List Line → Line → List Line
noted [] l = l ∷ []
noted (x ∷ xs) l = cond (x.supplier == l.supplier) (l ∷ xs) (x ∷ noted xs l)

-- one line a supplier
abbrev pub SingleLines : List Line → Type 0
SingleLines ls = IsDistinct (λ x y. x.supplier == y.supplier) ls

-- the place of a supplier's line, or the next one
abbrev pub place : List Line → ℕ → ℕ
place [] s = 0
place (l ∷ ls) s = cond (l.supplier == s) 0 (suc (place ls s))
