-- The offset of a place within a slice fits its type, since the whole slice does.
use Rattle.std.proofs.Common.{ℕ, ◌*◌, ◌<◌, ◌≤◌, mul-le-mul_right, arith, w64, Fits}

pub offset_fits : (at n size : ℕ) → n * size < 9223372036854775808 → at ≤ n → Fits w64 (at * size)
offset_fits at n size whole l = let h : at * size ≤ n * size = mul-le-mul_right size l in omega (arith, h)
