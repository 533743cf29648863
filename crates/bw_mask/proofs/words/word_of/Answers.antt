use Rattle.std.proofs.Common.{◌==◌, ap, sym, ◌∙◌}
use Rattle.std.proofs.lemmas.Nat.Bits.{bit_at_ones, bit_at-zero}
use Rattle.bw_mask.proofs.words.word_of.Goals as goal

pub returns-then-bit : goal.returns-then-bit
returns-then-bit c i h = ap (λ x. x == 1) (bit_at_ones 64 i h) ∙ sym c.if-bit.true

pub returns-else-bit : goal.returns-else-bit
returns-else-bit c i h = ap (λ x. x == 1) (bit_at-zero i) ∙ sym c.if-bit.false
