use Rattle.std.proofs.Common.{Bool, List, ap, arith, get_or, subst, sym, ℕ, ◌*◌, ◌+◌, ◌-◌, ◌/◌, ◌<◌, ◌≡◌, ◌≤◌, ◌∙◌}
use Rattle.bw_mask.specs.Masks.{bit_of, row_in}
use Rattle.bw_aggregate.specs.PlaneSums.{AreBits, AreMadeOf, IsSumTo}
use Rattle.bw_aggregate.proofs.SegmentSums.{all_added, none_yet}
use Rattle.bw_aggregate.proofs.plane_sums.planes_sum.Goals as goal

-- plane i of the codes has a bit of the numbers
bits_of_plane : (codes numbers plane : List ℕ) (q k end from i : ℕ) → end ≤ k → from ≤ i → i < end → AreMadeOf codes (k - end) (end - from) numbers
    → ((j : ℕ) → j < 256 → row_in plane j ≡ bit_of (get_or codes (256 * q + j) 0) (k - 1 - i)) → AreBits numbers q (end - 1 - i) plane
bits_of_plane codes numbers plane q k end from i within above below made is j h =
    let place : (k - end) + (end - 1 - i) ≡ k - 1 - i = omega (arith, within, below) in
    is j h ∙ ap (bit_of (get_or codes (256 * q + j) 0)) (sym place) ∙ sym (made (256 * q + j) (end - 1 - i) (omega (arith, above, below)))

moved : (need : List Bool) (numbers : List ℕ) (q i j sum : ℕ) → i ≡ j → IsSumTo need numbers q i sum → IsSumTo need numbers q j sum
moved need numbers q i j sum e is = subst (λ n. IsSumTo need numbers q n sum) e is

pub groups-init : goal.groups-init
groups-init c = record {
  from = omega arith;
  upto = c.requires.from;
  sum = λ need numbers same fit made rows. none_yet need numbers same c.args.q (c.args.end - 4 * c.args.group) fit;
}

pub groups-preserved : goal.groups-preserved
groups-preserved c =
    let codes = c.args.codes.now in
    let q = c.args.q in
    let k = codes.width in
    let end = c.args.end in
    let from = 4 * c.args.group in
    let g = c.groups.g in
    let above : from ≤ 4 * g = omega (arith, c.groups.invariant.from) in
    let within : 4 * g + 3 < end = omega (arith, c.groups-test.true) in
    let half : end - from ≤ 32 = omega (arith, c.requires.half) in
    record {
      from = omega (arith, c.groups.invariant.from);
      upto = omega (arith, within);
      sum = λ need numbers same fit made rows.
          let bits = λ (plane : List ℕ) (i : ℕ) (a : from ≤ i) (b : i < end) (is : (j : ℕ) → j < 256 → row_in plane j ≡ bit_of (get_or codes.codes (256 * q + j) 0) (k - 1 - i)). bits_of_plane codes.codes numbers plane q k end from i c.requires.within a b made is in
          let a = c.with_plane-first.ensures need numbers (end - from) q (end - 1 - 4 * g) half fit same rows (bits _ (4 * g) above (omega (arith, within)) c.plane_at.ensures) (moved need numbers q (end - 4 * g) (end - 1 - 4 * g + 1) _ (omega (arith, within)) (c.groups.invariant.sum need numbers same fit made rows)) in
          let b = c.with_plane-second.ensures need numbers (end - from) q (end - 1 - (4 * g + 1)) half fit same rows (bits _ (4 * g + 1) (omega (arith, above)) (omega (arith, within)) c.plane_at-in-groups.ensures) (moved need numbers q (end - 1 - 4 * g) (end - 1 - (4 * g + 1) + 1) _ (omega (arith, within)) a) in
          let d = c.with_plane-third.ensures need numbers (end - from) q (end - 1 - (4 * g + 2)) half fit same rows (bits _ (4 * g + 2) (omega (arith, above)) (omega (arith, within)) c.plane_at-in-groups-2.ensures) (moved need numbers q (end - 1 - (4 * g + 1)) (end - 1 - (4 * g + 2) + 1) _ (omega (arith, within)) b) in
          let e = c.with_plane-sum.ensures need numbers (end - from) q (end - 1 - (4 * g + 3)) half fit same rows (bits _ (4 * g + 3) (omega (arith, above)) within c.plane_at-in-groups-3.ensures) (moved need numbers q (end - 1 - (4 * g + 2)) (end - 1 - (4 * g + 3) + 1) _ (omega (arith, within)) d) in
          moved need numbers q (end - 1 - (4 * g + 3)) (end - 4 * (g + 1)) _ (omega (arith, within)) e;
    }

pub rest-init : goal.rest-init
rest-init c =
    let all : c.groups.g ≡ c.args.end / 4 = omega (arith, c.groups-test.false, c.groups.invariant.upto) in
    record {
      from = omega (arith, all, c.groups.invariant.from);
      sum = λ need numbers same fit made rows. moved need numbers c.args.q (c.args.end - 4 * c.groups.g) (c.args.end - c.args.end / 4 * 4) c.groups.sum (omega (arith, all)) (c.groups.invariant.sum need numbers same fit made rows);
    }

pub rest-preserved : goal.rest-preserved
rest-preserved c =
    let codes = c.args.codes.now in
    let q = c.args.q in
    let k = codes.width in
    let end = c.args.end in
    let from = 4 * c.args.group in
    let i = c.rest.i in
    let within : i < end = omega (arith, c.rest-test.true) in
    record {
      from = omega (arith, c.rest.invariant.from);
      sum = λ need numbers same fit made rows.
          moved need numbers q (end - 1 - i) (end - (i + 1)) _ (omega arith)
          (c.with_plane-sum-in-rest.ensures need numbers (end - from) q (end - 1 - i) (omega (arith, c.requires.half)) fit same rows
          (bits_of_plane codes.codes numbers _ q k end from i c.requires.within c.rest.invariant.from within made c.plane_at-in-rest.ensures)
          (moved need numbers q (end - i) (end - 1 - i + 1) _ (omega (arith, within)) (c.rest.invariant.sum need numbers same fit made rows)));
    }

pub returns : goal.returns
returns c need numbers same fit made rows =
    let none : c.args.end - c.rest.i ≡ 0 = omega (arith, c.rest-test.false) in
    all_added need numbers same c.args.q c.rest.sum (moved need numbers c.args.q (c.args.end - c.rest.i) 0 c.rest.sum none (c.rest.invariant.sum need numbers same fit made rows))
