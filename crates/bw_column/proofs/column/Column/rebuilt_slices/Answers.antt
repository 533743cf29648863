use Rattle.std.proofs.Common.{None, ap, replicate, ◌∙◌}
use Rattle.bw_code.specs.declared.encoding.Encoding.TheVariants as by
use Rattle.bw_code.specs.declared.kind.Layout.TheVariants as layouts
use Rattle.bw_column.specs.Places.{chosen_values, overwritten}
use Rattle.bw_column.specs.Values.{known}
use Rattle.bw_column.proofs.Known.{all_coded}
use Rattle.bw_column.proofs.Masked.{masked_known}
use Rattle.bw_column.proofs.Narrow.{known_held, narrow}
use Rattle.bw_column.proofs.Stored.{nulls_masked}
use Rattle.bw_column.proofs.column.Column.rebuilt_slices.Goals as goal

pub of_nulls-requires-clause-narrow : goal.of_nulls-requires-clause-narrow
of_nulls-requires-clause-narrow c =
    let values = c.args.self.now.values in
    narrow layouts.S (known values) (by.Offset c.spanning-offset.result) (known_held layouts.S values (rw c.requires.layout at c.len-count.ensures.held)) (c.spanning-offset.ensures.fits (known values) c.ends.ensures)

pub copy_distances-requires-clause-coded : goal.copy_distances-requires-clause-coded
copy_distances-requires-clause-coded c =
    let values = c.args.self.now.values in
    rw c.in_ok-column.ensures.encoding (all_coded (by.Offset c.spanning-offset.result) values (c.spanning-offset.ensures.coded (known values) c.ends.ensures))

pub returns-clause-values : goal.returns-clause-values
returns-clause-values c =
    let places = c.nonnull.result.now in
    let values = c.args.self.now.values in
    c.copy_distances.ensures.values
    ∙ ap (overwritten places (chosen_values places values)) (c.in_ok-column.ensures.values ∙ ap (λ n. replicate n None) c.len-count.ensures.count)
    ∙ nulls_masked places values
    ∙ masked_known places values c.nonnull.ensures.rows
