use Rattle.std.proofs.Common.{ap, arith, cond, false, sym, ℕ, ◌*◌, ◌+◌, ◌-◌, ◌<◌, ◌^◌, ◌≡◌, ◌∙◌}
use Rattle.bw_mask.specs.Masks.{bit_of, row_in}
use Rattle.bw_code.specs.Columns.{code_at}
use Rattle.bw_aggregate.specs.Descents.{front}
use Rattle.bw_aggregate.specs.Ends.{distance, is_near}
use Rattle.bw_aggregate.proofs.Distances.{distance-more, far_by_bit}
use Rattle.bw_aggregate.proofs.NearRows.{code_small, left_out, still_left}
use Rattle.bw_aggregate.proofs.nearest_planes.rows_that_may_be_nearer.Goals as goal

pub planes-preserved : goal.planes-preserved
planes-preserved c =
    let codes = c.args.codes.now in
    let k = codes.width in
    let p = k - 1 - c.planes.i in
    let m = k - 4 * c.groups.g - 4 in
    let end = c.args.end in
    let best = c.args.best in
    let code = λ (j : ℕ). code_at codes (256 * c.args.q + j) in
    let far = λ (j : ℕ). distance end (2 ^ k - 1) (code j) in
    let left = λ (j : ℕ). row_in c.planes.left j in
    let near = λ (j : ℕ). is_near end (row_in c.plane_at.result.now j) in
    let each = c.nearer_rows-left.ensures in
    let inv = c.planes.invariant in
    let within : c.planes.i < k = omega (arith, c.planes-test.true, c.groups-test.true, c.width-k.ensures.width) in
    let same : c.width-k.result - 4 * c.groups.g - 4 ≡ m = omega (arith, c.width-k.ensures.width) in
    let none : front m best ≡ 0 = rw same at c.if-best-k-ne0.false in
    record {
      left = λ j h t. inv.left j h (still_left (left j) (near j) (sym (each j h) ∙ t));
      out = λ j h r t.
          left_out (left j) (near j) best (far j) (inv.out j h r)
          (λ no_bit.
          let more = distance-more end k p (code j) (omega (arith, within)) (code_small k codes.codes c.width-k.ensures.fit (256 * c.args.q + j)) in
          let bit : is_near end (bit_of (code j) p) ≡ false = ap (is_near end) (sym (c.plane_at.ensures j h)) ∙ no_bit in
          let one : ◌≡◌ {A = ℕ} (cond (is_near end (bit_of (code j) p)) 0 1) 1 = ap (λ b. cond {A = ℕ} b 0 1) bit in
          far_by_bit m p best (far j) none (omega (arith, c.planes-test.true)) (omega (arith, more, one)))
          (sym (each j h) ∙ t);
    }
