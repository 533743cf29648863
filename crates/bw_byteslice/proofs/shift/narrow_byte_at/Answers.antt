use Rattle.std.proofs.Common.{ap, sym, ◌%◌, ◌-◌, ◌/◌, ◌∙◌}
use Rattle.std.proofs.lemmas.Nat.{and_mask}
use Rattle.bw_byteslice.proofs.Raised.{pow_bytes}
use Rattle.bw_byteslice.proofs.shift.narrow_byte_at.Goals as goal

pub returns : goal.returns
returns c = and_mask _ 8 ∙ ap (λ d. c.args.number / d % 256) (sym (pow_bytes (c.args.m - 1 - c.args.i)))
