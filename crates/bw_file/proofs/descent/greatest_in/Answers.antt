use Rattle.std.proofs.Common.{ap, arith, ℕ, ◌*◌, ◌+◌, ◌==◌, ◌≡◌, ◌∙◌, sym}
use Rattle.bw_vertical.proofs.Descending.{one_bit_more}
use Rattle.bw_vertical.proofs.Numbers.{number}
use Rattle.bw_file.specs.Descents.{bit_at_row}
use Rattle.bw_file.specs.Planes.{code_in, plane_bit}
use Rattle.bw_file.proofs.BlockEnds.{greatest_first, not_greater, plane_grows, row_in}
use Rattle.bw_file.proofs.descent.greatest_in.Goals as goal

pub planes-init : goal.planes-init
planes-init c =
    let F = λ (r q : ℕ). plane_bit c.args.size c.args.planes.now q (8 * c.args.from + r) == 1 in
    record {
      so_far = greatest_first c.args.there.now F c.requires.some;
      short = omega arith;
    }

pub planes-preserved : goal.planes-preserved
planes-preserved c =
    let there = c.args.there.now in
    let p = c.planes.p in
    let F = λ (r q : ℕ). plane_bit c.args.size c.args.planes.now q (8 * c.args.from + r) == 1 in
    record {
      so_far = c.greater.ensures.greatest (bit_at_row there) (λ r. number (F r) p) (λ r. number (F r) (p + 1))
          (λ r on. plane_grows c.args.size p c.args.from c.min-n.result _ c.args.planes.now (omega arith) r (omega (arith, row_in there c.told-there c.args.size c.args.from c.requires.within r on, c.min-n.ensures))) c.planes.invariant.so_far;
      short = one_bit_more p c.planes.reached.number c.greater.new.self.number c.planes.invariant.short c.greater.ensures.short;
    }

pub returns-then-reached-best-clause-bound : goal.returns-then-reached-best-clause-bound
returns-then-reached-best-clause-bound c r on =
    let there = c.args.there.now in
    let p = c.planes.p in
    let F = λ (r q : ℕ). plane_bit c.args.size c.args.planes.now q (8 * c.args.from + r) == 1 in
    let so_far = c.greater.ensures.greatest (bit_at_row there) (λ r. number (F r) p) (λ r. number (F r) (p + 1))
    (λ r on. plane_grows c.args.size p c.args.from c.min-n.result _ c.args.planes.now (omega arith) r (omega (arith, row_in there c.told-there c.args.size c.args.from c.requires.within r on, c.min-n.ensures))) c.planes.invariant.so_far in
    not_greater (F r) p c.args.k c.args.best c.greater.new.self.number (omega (arith, c.planes-test.true)) (so_far.bound r on) (omega (arith, c.if-reached-best.true))

pub returns-clause-bound : goal.returns-clause-bound
returns-clause-bound c r on =
    let F = λ (r q : ℕ). plane_bit c.args.size c.args.planes.now q (8 * c.args.from + r) == 1 in
    let all : c.planes.p ≡ c.args.k = omega (arith, c.planes-test.false, c.planes.auto.p-end) in
    let whole : number (F r) c.planes.p ≡ code_in c.args.k c.args.size c.args.planes.now (8 * c.args.from + r) = ap (number (F r)) all in
    omega (arith, c.planes.invariant.so_far.bound r on, whole, c.max.ensures)

pub returns-clause-reached : goal.returns-clause-reached
returns-clause-reached c past =
    let F = λ (r q : ℕ). plane_bit c.args.size c.args.planes.now q (8 * c.args.from + r) == 1 in
    let all : c.planes.p ≡ c.args.k = omega (arith, c.planes-test.false, c.planes.auto.p-end) in
    let at = c.planes.invariant.so_far.some in
    let here = c.planes.invariant.so_far.each at.0 at.1 in
    let is : c.planes.reached.number ≡ c.max.result = omega (arith, c.max.ensures, past) in
    (at.0, here.0, sym (ap (number (F at.0)) all) ∙ here.1 ∙ is)
