use Rattle.std.proofs.Common.{ap, arith, true, ℕ, ◌-◌, ◌<◌, ◌==◌, ◌^◌, ◌≡◌, ◌∙◌}
use Rattle.std.proofs.lemmas.Nat.Bits.{bit_at_ones}
use Rattle.bw_mask.specs.Masks.{bit_of}
use Rattle.bw_groups.proofs.scale.numbers_of.Goals as goal

-- all bits of a word are set
full : (k : ℕ) → k < 64 → bit_of (2 ^ 64 - 1) k ≡ true
full k h = ap (λ x. x == 1) (bit_at_ones 64 k h)

pub returns-then-measured-eq18446744073709551615 : goal.returns-then-measured-eq18446744073709551615
returns-then-measured-eq18446744073709551615 c k h =
    let low : k < 64 = omega (arith, h, c.requires) in
    let set : bit_of c.args.measured.present k ≡ true = ap (λ w. bit_of w k) c.if-measured-eq18446744073709551615.true ∙ full k low in
    rw set (c.lowest_bits.ensures k low)
