use Rattle.std.proofs.Common.{ap, arith, bit_and, ltb, min, refl, subst, sum, sym, true, ℕ, ◌&&◌, ◌*◌, ◌+◌, ◌-◌, ◌<◌, ◌^◌, ◌≡◌, ◌∙◌}
use Rattle.std.proofs.lemmas.Bool.Decides.{nat_tests}
use Rattle.std.proofs.lemmas.List.{take_all}
use Rattle.std.specs.List.{items_where_true}
use Rattle.bw_mask.specs.Masks.{bit_of, row_at}
use Rattle.bw_mask.proofs.Bits.{bit_of_and}
use Rattle.bw_code.specs.Columns.{code_at, count}
use Rattle.bw_aggregate.specs.Ends.{AreNearest}
use Rattle.bw_aggregate.specs.Runs.{code_sum}
use Rattle.bw_aggregate.proofs.Nearest.{ends_more}
use Rattle.bw_aggregate.proofs.NearRows.{still_left}
use Rattle.bw_aggregate.proofs.RowsMore.{run_of_bits}
use Rattle.bw_aggregate.proofs.tally_runs.tally_in_runs.Goals as goal

pub run_tally-more-requires-clause-known : goal.run_tally-more-requires-clause-known
run_tally-more-requires-clause-known g c i is_in = still_left (bit_of c.bits-rows.result i) (bit_of c.bits.result i) (sym (bit_of_and c.bits-rows.result c.bits.result i) ∙ is_in)

pub runs-preserved : goal.runs-preserved
runs-preserved g c =
    let column = g.C.CodeColumn.seen c.args.column.now in
    let rows = c.args.rows.now.rows in
    let q = c.runs.q in
    let n = c.min-n.result in
    let below : 64 * q < count column = omega (arith, c.runs-test.true, c.div_ceil-q-end.ensures, c.len.ensures.count) in
    let many : n ≡ min (count column - 64 * q) 64 = omega (arith, c.min-n.ensures, c.len-in-runs.ensures.count) in
    let here : min (64 * q) (count column) ≡ 64 * q = omega (arith, below) in
    let next : 64 * q + n ≡ min (64 * (q + 1)) (count column) = omega (arith, below, many) in
    let run = run_of_bits rows (64 * q) n c.bits-rows.result (omega (arith, many, below, c.requires.len)) (omega (arith, many)) c.bits-rows.ensures in
    let known = λ (r : ℕ). row_at c.args.rows.now r && row_at c.args.nonnull.now r in
    let low = λ (i : ℕ) (h : i < n). let it : ltb i 64 ≡ true = grind (arith, nat_tests, h, many) in it in
    let in_both : (i : ℕ) → i < n → bit_of (bit_and c.bits-rows.result c.bits.result) i ≡ known (64 * q + i) = λ i h. bit_of_and c.bits-rows.result c.bits.result i
    ∙ rw (c.bits-rows.ensures i ∙ ap (λ b. b && row_at c.args.rows.now (64 * q + i)) (low i h), c.bits.ensures i ∙ ap (λ b. b && row_at c.args.nonnull.now (64 * q + i)) (low i h)) refl in
    record {
      total = λ asked.
          let more = c.run_tally-more.ensures.sum asked rows c.requires.len run in
          let before = c.runs.invariant.total asked ∙ ap (code_sum rows column.codes) here in
          let after = ap (code_sum rows column.codes) next in
          omega (arith, more, before, after);
      small = omega (arith, c.runs.invariant.small, c.run_tally-more.ensures.small);
      nearest = subst (λ k. AreNearest k known (code_at column) c.greatest_code-top.result c.args.far c.run_tally-more.result.nearest) next
          (ends_more (64 * q) n known (bit_of (bit_and c.bits-rows.result c.bits.result)) (code_at column) (λ (i : ℕ). code_at column (64 * q + i)) c.greatest_code-top.result c.args.far c.runs.best c.run_tally-more.result.nearest
          in_both (λ i h. refl)
          (subst (λ k. AreNearest k known (code_at column) c.greatest_code-top.result c.args.far c.runs.best) here c.runs.invariant.nearest) c.run_tally-more.ensures.nearest);
    }

pub returns : goal.returns
returns g c =
    let column = g.C.CodeColumn.seen c.args.column.now in
    let rows = c.args.rows.now.rows in
    let known = λ (r : ℕ). row_at c.args.rows.now r && row_at c.args.nonnull.now r in
    let all : min (64 * c.runs.q) (count column) ≡ count column = omega (arith, c.runs-test.false, c.div_ceil-q-end.ensures, c.len.ensures.count) in
    let whole : code_sum rows column.codes (count column) ≡ sum (items_where_true rows column.codes) = rw (take_all (count column) rows (omega (arith, c.requires.len)), take_all (count column) column.codes (omega arith)) refl in
    let top : c.greatest_code-top.result ≡ 2 ^ column.width - 1 = c.greatest_code-top.ensures ∙ ap (λ w. 2 ^ w - 1) c.width.ensures.width in
    record {
      small = omega (arith, c.runs.invariant.small, c.div_ceil-q-end.ensures, c.len.ensures.count, c.len.ensures.few);
      sum = λ asked. c.runs.invariant.total asked ∙ ap (code_sum rows column.codes) all ∙ whole;
      nearest = subst (λ k. AreNearest k known (code_at column) (2 ^ column.width - 1) c.args.far c.runs.best) all
          (subst (λ t. AreNearest (min (64 * c.runs.q) (count column)) known (code_at column) t c.args.far c.runs.best) top c.runs.invariant.nearest);
    }
