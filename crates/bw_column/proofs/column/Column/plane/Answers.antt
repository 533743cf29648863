use Rattle.std.proofs.Common.{ap, ◌∙◌}
use Rattle.bw_mask.specs.Masks.{bit_of}
use Rattle.bw_column.specs.Storing.{list_of}
use Rattle.bw_column.proofs.Rows.{row_codes}
use Rattle.bw_column.proofs.column.Column.plane.Goals as goal

pub returns-clause-rows : goal.returns-clause-rows
returns-clause-rows c i =
    rw (← c.self.view_is) (c.plane.ensures.rows i ∙ ap (λ x. bit_of x c.args.i) (row_codes c.self.inside.encoding (list_of c.self.inside.codes) c.self.inside.nonnull c.self.invariant i))
