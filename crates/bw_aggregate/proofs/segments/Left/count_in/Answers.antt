use Rattle.std.proofs.Common.{ap, arith, ℕ}
use Rattle.std.proofs.lemmas.List.Sums.{sum_by_more}
use Rattle.bw_mask.specs.Masks.{bit_of}
use Rattle.bw_aggregate.specs.Left.{segment_count}
use Rattle.bw_aggregate.proofs.LeftRows.{segment_in}
use Rattle.bw_aggregate.proofs.segments.Left.count_in.Goals as goal

pub segments-preserved : goal.segments-preserved
segments-preserved c =
    let segment = c.index-segment.result.now in
    let items = c.args.self.now.segments.items in
    record {
      count = λ codes i plane.
          let f = segment_count codes (λ (code : ℕ). bit_of code i) in
          let row = segment_in codes i c.args.plane.now plane segment c.rows.result c.rows.ensures in
          let more = sum_by_more f items c.segments.k segment (omega (arith, c.segments-test.true, c.len-k-end.ensures)) in
          let here = ap f c.index-segment.ensures in
          omega (arith, more, here, row, c.count_both-count.ensures.is, c.segments.invariant.count codes i plane);
      few = omega (arith, c.count_both-count.ensures.few, c.segments.invariant.few);
    }
