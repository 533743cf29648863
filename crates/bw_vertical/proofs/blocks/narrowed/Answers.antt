use Rattle.std.proofs.Common.{arith, inl, inr, length, ◌∙◌}
use Rattle.std.proofs.lemmas.Bool.{cases_lt}
use Rattle.std.proofs.lemmas.List.{get_or_past}
use Rattle.bw_code.proofs.LaneLemmas.{zeros}
use Rattle.bw_vertical.proofs.blocks.narrowed.Goals as goal

pub returns-else-codes-eq64 : goal.returns-else-codes-eq64
returns-else-codes-eq64 c r =
    let codes = c.args.codes.now in
    elim (cases_lt r (length codes)) [
      | inl h ↦ c.narrow-else-codes-eq64.ensures.codes r (omega (arith, h))
      | inr h ↦ c.narrow-else-codes-eq64.ensures.rest r (omega (arith, h)) ∙ zeros 64 r ∙ omega (arith, get_or_past codes r 0 h)
    ]
