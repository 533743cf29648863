use Rattle.std.proofs.Common.{of_z, to_z, w64, ◌≡◌}
use Rattle.std.proofs.lemmas.Int.{to_z-of_z}
use Rattle.bw_column.proofs.column.Column.range.Goals as goal

pub returns-clause-truth : goal.returns-clause-truth
returns-clause-truth c =
    let v : to_z w64 (of_z w64 c.args.low) ≡ c.args.low = to_z-of_z w64 c.args.low c.ranges.low in
    let w : to_z w64 (of_z w64 c.args.high) ≡ c.args.high = to_z-of_z w64 c.args.high c.ranges.high in
    rw (v, w) at c.range_in.ensures.truth
