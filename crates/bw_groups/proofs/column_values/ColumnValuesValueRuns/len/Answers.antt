use Rattle.std.proofs.Common.{ap, length, sym, ◌∙◌}
use Rattle.bw_groups.proofs.Runs.{chunks_all}
use Rattle.bw_groups.proofs.column_values.ColumnValuesValueRuns.len.Goals as goal

pub returns : goal.returns
returns c = c.len.ensures ∙ ap length (sym (chunks_all c.args.self.now))
