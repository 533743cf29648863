use Rattle.std.proofs.Common.{None, Some, ◌∙◌}
use Rattle.std.proofs.lemmas.List.{take_rest}
use Rattle.bw_csvload.proofs.Digits.{size_of-front}
use Rattle.bw_csvload.proofs.field.size_of.Goals as goal

pub returns-in_err-front : goal.returns-in_err-front
returns-in_err-front c = c.from_residual.ensures ∙ size_of-front c.args.text.now None c.in_err-front.ensures.number

pub returns : goal.returns
returns c =
    rw (c.size_after-2.ensures, take_rest c.args.text.now 8) (size_of-front c.args.text.now (Some c.in_ok-front.front) c.in_ok-front.ensures.number)
