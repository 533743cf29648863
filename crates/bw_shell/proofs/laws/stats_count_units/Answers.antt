use Rattle.bw_shell.proofs.Counts.{counts_units, part_counted}
use Rattle.bw_shell.proofs.laws.stats_count_units.Goals as goal

pub returns : goal.returns
returns c = record {
  counted = λ before after query n answers. counts_units before after query n answers;
  each = λ before after closed text n answers. part_counted before after closed text n answers;
}
