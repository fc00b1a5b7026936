use Rattle.std.proofs.Common.{◌≡◌, length}
use Rattle.fields.specs.Bytes.{trimmed}
use Rattle.fields.proofs.text.Text.trimmed.Given as goal

-- the blanks that were cut off are at the end of the text
abbrev pub invariant-loop-text : goal.invariant-loop-text
invariant-loop-text g l = trimmed l.text ≡ trimmed l.self.bytes

abbrev pub decreases-loop-text : goal.decreases-loop-text
decreases-loop-text g l = length l.text
