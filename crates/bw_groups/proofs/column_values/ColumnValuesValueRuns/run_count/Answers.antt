use Rattle.std.proofs.Common.{arith, drop, length, take, ◌*◌, ◌+◌, ◌/◌}
use Rattle.std.proofs.lemmas.List.FromFn.{length-map-range_with_len}
use Rattle.bw_groups.proofs.column_values.ColumnValuesValueRuns.run_count.Goals as goal

pub returns : goal.returns
returns c =
    let values = c.args.self.now in
    let count = length-map-range_with_len (λ q. take 64 (drop (64 * q) values)) 0 ((length values + 63) / 64) in
    omega (arith, count, c.len.ensures, c.div_ceil.ensures)
