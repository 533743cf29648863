use Rattle.std.proofs.Common.{ap, arith, bit_and, get_or, get_or-set_other, get_or-set_same, inl, inr, length, set, sym, ◌%◌, ◌*◌, ◌+◌, ◌/◌, ◌<◌, ◌^◌, ◌≡◌, ◌∙◌}
use Rattle.std.proofs.lemmas.Bool.{cases_eq}
use Rattle.bw_mask.specs.Masks.{bit_of}
use Rattle.bw_byteslice.proofs.Blends.{bit_of_byte}
use Rattle.bw_byteslice.proofs.runs.spread.Goals as goal

pub loop-b-preserved : goal.loop-b-preserved
loop-b-preserved c r h =
    let rows = c.args.rows in
    let bytes = c.loop-b.bytes in
    let k = c.loop-k.k in
    let b = c.loop-b.b in
    let at = 8 * k + b in
    let byte = bit_and (rows / 2 ^ (8 * k)) 255 in
    let low : b < 8 = c.loop-b-test.true in
    let few : k < 8 = c.loop-k-test.true in
    let inside : at < length bytes = omega (arith, low, few) in
    let rest : at % 8 ≡ b = omega (arith, low) in
    elim (cases_eq r at) [
      | inl e ↦
          ap (λ q. bit_of (get_or (set bytes at byte) q 0) (q % 8)) e ∙ ap (λ w. bit_of w (at % 8)) (get_or-set_same bytes at byte 0 inside) ∙ ap (bit_of byte) rest
          ∙ bit_of_byte rows (8 * k) b low ∙ ap (bit_of rows) (sym e)
      | inr d ↦ ap (λ w. bit_of w (r % 8)) (get_or-set_other bytes at r byte 0 d) ∙ c.loop-b.invariant r (omega (arith, h, d))
    ]
