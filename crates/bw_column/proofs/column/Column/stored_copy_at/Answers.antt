use Rattle.std.proofs.Common.{None, ap, replicate, ◌∙◌}
use Rattle.bw_column.specs.Places.{chosen_values, overwritten}
use Rattle.bw_column.proofs.Stored.{nulls_masked}
use Rattle.bw_column.proofs.column.Column.stored_copy_at.Goals as goal

pub returns-clause-values : goal.returns-clause-values
returns-clause-values c =
    let places = c.args.places.now in
    let values = c.args.self.now.values in
    c.copy_distances.ensures.values
    ∙ ap (overwritten places (chosen_values places values)) (c.in_ok-copy.ensures.values ∙ ap (λ n. replicate n None) c.len.ensures.count)
    ∙ nulls_masked places values
