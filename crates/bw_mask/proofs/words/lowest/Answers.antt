use Rattle.std.proofs.Common.{ap, w64, ◌==◌}
use Rattle.std.proofs.lemmas.Nat.Bits.{bit_at-trailing_zeros}
use Rattle.bw_mask.proofs.words.lowest.Goals as goal

pub returns-clause-set : goal.returns-clause-set
returns-clause-set c = ap (λ x. x == 1) (bit_at-trailing_zeros w64 c.args.word c.requires c.ranges.word.fits).1

pub returns-clause-least : goal.returns-clause-least
returns-clause-least c i h = ap (λ x. x == 1) ((bit_at-trailing_zeros w64 c.args.word c.requires c.ranges.word.fits).2 i h)
