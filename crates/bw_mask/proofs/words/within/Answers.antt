use Rattle.std.proofs.Common.{ap, arith, inl, inr, ltb, sym, ◌%◌, ◌&&◌, ◌*◌, ◌+◌, ◌≡◌, ◌∙◌}
use Rattle.std.proofs.lemmas.Bool.{cases_lt, le-ltb, lt-ltb}
use Rattle.bw_mask.specs.Masks.{bit_of}
use Rattle.bw_mask.proofs.Bits.{bit_of_and}
use Rattle.bw_mask.proofs.words.within.Goals as goal

pub returns-else-k-n : goal.returns-else-k-n
returns-else-k-n c i h =
    let same : ltb i (c.args.n % 64) ≡ ltb (64 * c.args.k + i) c.args.n =
    elim (cases_lt i (c.args.n % 64)) [
      | inl l ↦ lt-ltb i (c.args.n % 64) l ∙ sym (lt-ltb (64 * c.args.k + i) c.args.n (omega arith))
      | inr l ↦ le-ltb i (c.args.n % 64) l ∙ sym (le-ltb (64 * c.args.k + i) c.args.n (omega arith))
    ] in
    bit_of_and c.args.word c.low_bits.result i ∙ ap (λ b. bit_of c.args.word i && b) (c.low_bits.ensures i ∙ same)
