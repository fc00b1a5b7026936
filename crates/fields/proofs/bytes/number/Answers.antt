use Rattle.std.proofs.Common.{◌≡◌, ◌+◌, ◌*◌, ◌^◌, ◌≤◌, take, ap, pow-suc, add-one, arith, lit<}
use native.Mathlib.Nat.{pow-le-pow_right}
use Rattle.std.proofs.lemmas.List.{take_all}
use Rattle.fields.specs.Bytes.{value}
use Rattle.fields.proofs.Values.{value_more, value_none}
use Rattle.fields.proofs.bytes.number.Goals as goal

pub loop-byte-init : goal.loop-byte-init
loop-byte-init c = let e = value_none c.args.bytes.now in omega (arith, e)

pub loop-byte-preserved : goal.loop-byte-preserved
loop-byte-preserved c =
    let i = c.loop-byte.byte-index in
    let more = value_more c.args.bytes.now i (omega arith) in
    let tens : 10 ^ (i + 1) ≡ 10 ^ i * 10 = rw add-one (pow-suc 10 i) in
    omega (arith, more, c.type_inv.bytes i, tens)

pub returns : goal.returns
returns c =
    let bs = c.args.bytes.now in
    let i = c.loop-byte.byte-index in
    let all : value (take i bs) ≡ value bs = ap value (take_all i bs (omega arith)) in
    record {
      capped = omega (arith, all);
      short = λ few. let few' : i ≤ 8 = omega arith in
          let tens : 10 ^ i ≤ 10 ^ 8 = pow-le-pow_right (lit< tt) few' in omega (arith, all, tens);
    }
