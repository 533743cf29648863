use Rattle.std.proofs.Common.{◌==◌, not, arith}
use Rattle.std.proofs.lemmas.List.Sums.{prefix_len-le-length}
use Rattle.bw_lex.proofs.script.text_len.Goals as goal

pub overflow_add-result-else-says-after : goal.overflow_add-result-else-says-after
overflow_add-result-else-says-after c = omega (arith, prefix_len-le-length (λ b. not (b == 39)) c.args.after.now)
