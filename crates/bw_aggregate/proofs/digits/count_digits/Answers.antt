use Rattle.std.proofs.Common.{ap, arith, min, ◌*◌, ◌+◌, ◌-◌, ◌<◌, ◌≡◌}
use Rattle.bw_code.specs.Columns.{count}
use Rattle.bw_aggregate.specs.Digits.{front_count}
use Rattle.bw_aggregate.proofs.RowsMore.{run_of_bits}
use Rattle.bw_aggregate.proofs.digits.count_digits.Goals as goal

pub runs-preserved : goal.runs-preserved
runs-preserved g c =
    let column = g.C.CodeColumn.seen c.args.column.now in
    let rows = c.args.rows.now.rows in
    let digits = c.args.digits in
    let q = c.runs.q in
    let n = c.min-n.result in
    let below : 64 * q < count column = omega (arith, c.runs-test.true, c.div_ceil-q-end.ensures, c.len.ensures.count) in
    let many : n ≡ min (count column - 64 * q) 64 = omega (arith, c.min-n.ensures, c.len-in-runs.ensures.count) in
    let here : min (64 * q) (count column) ≡ 64 * q = omega (arith, below) in
    let next : min (64 * (q + 1)) (count column) ≡ 64 * q + n = omega (arith, below, many) in
    let run = run_of_bits rows (64 * q) n c.bits.result (omega (arith, many, below, c.requires.len)) (omega (arith, many)) c.bits.ensures in
    let counts = c.count_at.new.counts in
    record {
      long = omega (arith, c.count_at.ensures.long, c.runs.invariant.long);
      small = λ k. omega (arith, c.count_at.ensures.small k, next);
      counted = λ d low.
          let before = c.runs.invariant.counted d low in
          let more = c.count_at.ensures.counted rows d c.requires.len run low in
          let moved = ap (λ m. front_count rows column.codes m digits.below (digits.first + d)) here in
          let went = ap (λ m. front_count rows column.codes m digits.below (digits.first + d)) next in
          omega (arith, before, more, moved, went);
    }
