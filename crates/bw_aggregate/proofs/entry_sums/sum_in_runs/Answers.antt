use Rattle.std.proofs.Common.{ap, arith, bit_and, drop, false, get_or, length, length-drop, ltb, min, refl, sym, take, true, ℕ, ◌&&◌, ◌*◌, ◌+◌, ◌+ℤ◌, ◌-◌, ◌<◌, ◌≡◌, ◌∙◌}
use Rattle.std.proofs.lemmas.Bool.Decides.{nat_tests}
use Rattle.std.proofs.lemmas.List.{get_or-drop, get_or-take, length-take}
use Rattle.std.specs.Int.{w128}
use Rattle.bw_mask.specs.Masks.{bit_of, row_at}
use Rattle.bw_mask.proofs.Bits.{bit_of_and}
use Rattle.bw_code.specs.Columns.{count}
use Rattle.bw_aggregate.specs.Runs.{value_total}
use Rattle.bw_aggregate.proofs.EntrySums.{run_summed}
use Rattle.bw_aggregate.proofs.RowsMore.{run_added}
use Rattle.bw_aggregate.proofs.entry_sums.sum_in_runs.Goals as goal
use mir.Val.{to_z}

pub runs-preserved : goal.runs-preserved
runs-preserved g c =
    let column = g.C.CodeColumn.seen c.args.column.now in
    let rows = c.args.rows.now.rows in
    let q = c.runs.q in
    let n = c.min-n.result in
    let below : 64 * q < count column = omega (arith, c.runs-test.true, c.div_ceil-q-end.ensures, c.len.ensures.count) in
    let many : n ≡ min (count column - 64 * q) 64 = omega (arith, c.min-n.ensures, c.len-in-runs.ensures.count) in
    let here : min (64 * q) (count column) ≡ 64 * q = omega (arith, below) in
    let next : min (64 * (q + 1)) (count column) ≡ 64 * q + n = omega (arith, below, many) in
    let codes = take n (drop (64 * q) column.codes) in
    let long : length codes ≡ n = omega (arith, length-take n (drop (64 * q) column.codes), length-drop (64 * q) column.codes, many, below) in
    let word = bit_and c.bits.result c.bits-in-runs.result in
    let low = λ (i : ℕ) (h : i < n). let it : ltb i 64 ≡ true = grind (arith, nat_tests, h, many) in it in
    let in_both : (i : ℕ) → i < n → bit_of word i ≡ (get_or rows (64 * q + i) false && row_at c.args.nonnull.now (64 * q + i)) = λ i h. bit_of_and c.bits.result c.bits-in-runs.result i
    ∙ rw (c.bits.ensures i ∙ ap (λ b. b && row_at c.args.rows.now (64 * q + i)) (low i h), c.bits-in-runs.ensures i ∙ ap (λ b. b && row_at c.args.nonnull.now (64 * q + i)) (low i h)) refl in
    let one = run_added (to_z w128 c.runs.total-bits) c.entries_at-total.result q c.runs.invariant.small (omega (arith, below, c.len.ensures.count, c.len.ensures.few)) c.entries_at-total.ensures.small in
    rw (one.0, next) (record {
      total = λ all same found.
          let summed = run_summed rows all c.args.entries.now codes column.codes (row_at c.args.nonnull.now) (64 * q) word (omega (arith, c.requires.len, same)) (omega (arith, long, many, below, same)) found
          (λ i h. sym (get_or-take n (drop (64 * q) column.codes) i 0 (omega (arith, h, long)) ∙ get_or-drop (64 * q) column.codes i 0)) (λ i h. in_both i (omega (arith, h, long))) in
          let more = c.entries_at-total.ensures.total rows all summed in
          ap (λ t. t +ℤ c.entries_at-total.result) (c.runs.invariant.total all same found ∙ ap (value_total rows all) here) ∙ sym more;
      small = one.1;
    })
