use Rattle.std.proofs.Common.{ap, length, ◌∙◌}
use Rattle.bw_code.proofs.Lists.{made_len}
use Rattle.test_layouts.proofs.runs.fill_run.Goals as goal

pub returns-clause-count : goal.returns-clause-count
returns-clause-count g c = ap length c.fill_run.ensures.codes ∙ made_len (length (g.C.CodeColumn.seen c.args.column.now).codes) _
