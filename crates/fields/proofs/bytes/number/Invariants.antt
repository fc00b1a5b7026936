use Rattle.std.proofs.Common.{◌≡◌, ◌+◌, ◌*◌, ◌^◌, ◌≤◌, min, take}
use Rattle.fields.specs.Bytes.{value}
use Rattle.fields.proofs.bytes.number.Given as goal

-- each byte adds at most 207, so that value is at most 23 * (10 ^ i - 1) after i bytes
abbrev pub invariant-loop-byte : goal.invariant-loop-byte
invariant-loop-byte l =
    (l.sum ≡ min (value (take l.byte-index l.bytes)) 18446744073709551615)
    × (value (take l.byte-index l.bytes) + 23 ≤ 23 * 10 ^ l.byte-index)
