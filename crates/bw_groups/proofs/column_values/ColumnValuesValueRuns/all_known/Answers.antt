use Rattle.std.proofs.Common.{ap, is_some, sym, ◌∙◌}
use Rattle.std.specs.List.{list_all}
use Rattle.bw_groups.proofs.Counts.{all_values}
use Rattle.bw_groups.proofs.Runs.{chunks_all}
use Rattle.bw_groups.proofs.column_values.ColumnValuesValueRuns.all_known.Goals as goal

pub returns : goal.returns
returns c =
    c.are_all.ensures
    ∙ ap (list_all (λ test. test)) c.deref.ensures.value
    ∙ all_values c.self.inside.numbers.items c.self.inside.known.items c.self.invariant
    ∙ ap (list_all is_some) (c.self.view_is ∙ sym (chunks_all c.args.self.now))
