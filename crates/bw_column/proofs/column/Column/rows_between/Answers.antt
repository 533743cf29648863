use Rattle.std.proofs.Common.{int_le, of_z, to_z, w64, ◌&&◌, ◌≡◌}
use Rattle.std.proofs.lemmas.Int.{to_z-of_z}
use Rattle.bw_column.proofs.column.Column.rows_between.Goals as goal

pub returns-clause-found : goal.returns-clause-found
returns-clause-found c =
    let v : to_z w64 (of_z w64 c.args.low) ≡ c.args.low = to_z-of_z w64 c.args.low c.ranges.low in
    let w : to_z w64 (of_z w64 c.args.high) ≡ c.args.high = to_z-of_z w64 c.args.high c.ranges.high in
    c.find.ensures.found (λ x. int_le c.args.low x && int_le x c.args.high) (λ x code h. rw (v, w) at (c.range-test.ensures.meets x code (rw c.encoding.ensures.is h)))
