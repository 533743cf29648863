use Rattle.std.proofs.Common.{◌+◌, ◌≤◌, length, slice_index, subst, sym, arith}
use Rattle.std.specs.List.{All}
use lib.Lanes.{chunk}
use Rattle.bw_lane.specs.Sections.{IsStored, IsCompared}
use Rattle.bw_lane.proofs.Stored.{stored}
use Rattle.bw_lane.proofs.Lanes.{stored_four, next_four, fours_compared}
use Rattle.bw_lane.proofs.sections.word_compare_pair.Goals as goal

pub compare_lanes-four-requires-clause-x_stored : goal.compare_lanes-four-requires-clause-x_stored
compare_lanes-four-requires-clause-x_stored c =
    let le : c.fours.i + 4 ≤ length c.args.x.now = omega arith in
    subst (λ k. All (IsStored k) (chunk c.fours.i 4 c.args.x.now)) (sym c.new-masks.ensures) (next_four (IsStored c.args.k) c.args.x.now c.fours.i le c.requires.x_stored)

pub compare_lanes-four-requires-clause-y_stored : goal.compare_lanes-four-requires-clause-y_stored
compare_lanes-four-requires-clause-y_stored c =
    let le : c.fours.i + 4 ≤ length c.args.y.now = omega arith in
    subst (λ k. All (IsStored k) (chunk c.fours.i 4 c.args.y.now)) (sym c.new-masks.ensures) (next_four (IsStored c.args.k) c.args.y.now c.fours.i le c.requires.y_stored)

pub fours-preserved : goal.fours-preserved
fours-preserved c = (
  omega arith,
  stored_four (λ j v. IsCompared c.args.op c.args.k (slice_index c.args.x.now j) (slice_index c.args.y.now j) v) c.fours.out c.compare_lanes-four.result c.fours.i
      (omega arith) (omega arith) c.fours.invariant.1
      (fours_compared c.args.op c.args.k c.new-masks.result.width c.args.x.now c.args.y.now c.fours.i c.compare_lanes-four.result c.new-masks.ensures c.compare_lanes-four.ensures),
)

pub rest-preserved : goal.rest-preserved
rest-preserved c = (
  omega arith,
  stored (λ j v. IsCompared c.args.op c.args.k (slice_index c.args.x.now j) (slice_index c.args.y.now j) v) c.rest.out c.rest.i c.compare.result (omega arith) c.rest.invariant.1
      (subst (λ k. IsCompared c.args.op k (slice_index c.args.x.now c.rest.i) (slice_index c.args.y.now c.rest.i) c.compare.result) c.new-masks.ensures c.compare.ensures),
)
