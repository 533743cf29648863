use Rattle.std.proofs.Common.{arith, bit_and, bit_xor}
use Rattle.std.proofs.lemmas.Nat.Bits.{bit_at-lt, bit_at_and, bit_at_or, bit_at_xor}
use Rattle.bw_vertical.proofs.shifting.add_bits.Goals as goal

pub returns : goal.returns
returns c r h =
    let a = c.args.a in
    let b = c.args.b in
    let carry = c.args.carry in
    let either = bit_xor a b in
    omega (arith, bit_at-lt a r, bit_at-lt b r, bit_at-lt carry r, bit_at_xor a b r, bit_at_xor either carry r, bit_at_and a b r, bit_at_and either carry r, bit_at_or (bit_and a b) (bit_and either carry) r)
