use Rattle.std.proofs.Common.{All, subst, sym}
use Rattle.bw_cells.specs.SetFunctions.{known}
use Rattle.bw_groups.specs.Runs.{IsWithin}
use Rattle.bw_groups.proofs.Runs.{chunks_all}
use Rattle.bw_groups.proofs.column_values.ColumnValuesValueRuns.bounds.Goals as goal

pub returns : goal.returns
returns c =
    subst (λ values. All (IsWithin c.known_ends.result) (known values)) (sym (chunks_all c.args.self.now))
    (λ k d h. (c.known_ends.ensures.least k d h, c.known_ends.ensures.greatest k d h))
