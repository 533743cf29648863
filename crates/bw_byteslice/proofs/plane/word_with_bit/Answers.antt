use Rattle.std.proofs.Common.{ap, arith, get_or, inl, inr, subst, ℕ, ◌*◌, ◌+◌, ◌-◌, ◌<◌, ◌≡◌, ◌∙◌}
use Rattle.std.proofs.lemmas.Bool.{cases_lt}
use Rattle.bw_mask.specs.Masks.{bit_of}
use Rattle.bw_byteslice.proofs.Planes.{byte_there}
use Rattle.bw_byteslice.proofs.plane.word_with_bit.Goals as goal

pub returns : goal.returns
returns c r h =
    let slice = c.args.slice.now in
    let w = c.args.w in
    let bit = λ (x : ℕ). bit_of x c.args.i in
    elim (cases_lt r 32) [
      | inl l ↦
          let at : 32 * (2 * w) + r ≡ 64 * w + r = omega arith in
          c.joined.ensures.low r l ∙ c.low_half.ensures r l ∙ c.rows_with_bit-low.ensures r l ∙ ap bit (byte_there slice c.bytes_at.result (32 * (2 * w)) r c.bytes_at.ensures l ∙ ap (λ n. get_or slice n 0) at)
      | inr l ↦
          let s = r - 32 in
          let up : s < 32 = omega (arith, h, l) in
          let back : 32 + s ≡ r = omega (arith, l) in
          let at : 32 * (2 * w + 1) + s ≡ 64 * w + (32 + s) = omega arith in
          subst (λ n. bit_of c.joined.result n ≡ bit (get_or slice (64 * w + n) 0)) back
          (c.joined.ensures.high s up ∙ c.low_half-2.ensures s up ∙ c.rows_with_bit-high.ensures s up ∙ ap bit (byte_there slice c.bytes_at-2.result (32 * (2 * w + 1)) s c.bytes_at-2.ensures up ∙ ap (λ n. get_or slice n 0) at))
    ]
