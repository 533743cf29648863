use Rattle.std.proofs.Common.{ap, arith, sym, ◌*◌, ◌+◌, ◌-◌, ◌<◌, ◌==◌, ◌∙◌, ◌≡◌}
use Rattle.std.proofs.lemmas.Nat.Bits.{bit_at_above}
use Rattle.bw_mask.specs.Masks.{bit_of, row_in}
use Rattle.bw_vertical.specs.Storage.{code_of, lists}
use Rattle.bw_vertical.proofs.Holding.{code_bit, code_lt, plane_row}
use Rattle.bw_vertical.proofs.Lanes.{no_rows}
use Rattle.bw_vertical.proofs.copying.bits_at.Goals as goal

pub returns-then-b-k : goal.returns-then-b-k
returns-then-b-k c j h =
    let k = c.args.k in
    let q = c.args.q in
    let gs = lists c.args.groups.now in
    let i = k - 1 - c.args.b in
    let low : i < k = omega (arith, c.if-b-k.true) in
    let bit : k - 1 - i ≡ c.args.b = omega (arith, c.if-b-k.true) in
    ap (λ p. row_in p j) c.plane_at.ensures ∙ plane_row k q i j gs h ∙ sym (code_bit k i (256 * q + j) gs low) ∙ ap (bit_of (code_of k gs (256 * q + j))) bit

pub returns-else-b-k : goal.returns-else-b-k
returns-else-b-k c j h =
    let k = c.args.k in
    let gs = lists c.args.groups.now in
    let code = code_of k gs (256 * c.args.q + j) in
    no_rows j h ∙ sym (ap (λ x. x == 1) (bit_at_above code k c.args.b (code_lt k gs (256 * c.args.q + j)) (omega (arith, c.if-b-k.false))))
