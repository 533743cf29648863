use Rattle.std.proofs.Common.{arith, subst, ◌*◌, ◌≡◌}
use Rattle.bw_file.specs.Descents.{IsGreatestSoFar}
use Rattle.bw_file.proofs.Descending.{greater_with, greater_without}
use Rattle.bw_file.proofs.descent.Reached.greater.Goals as goal

pub returns-then-has_row_with-clause-greatest : goal.returns-then-has_row_with-clause-greatest
returns-then-has_row_with-clause-greatest c has code next grows so_far =
    greater_with has code next c.args.self.now.number c.args.self.now.rows c.args.plane.now grows so_far c.keep_with.new.rows c.keep_with.ensures (c.has_row_with.ensures.some c.if-has_row_with.true)

pub returns-else-has_row_with-clause-greatest : goal.returns-else-has_row_with-clause-greatest
returns-else-has_row_with-clause-greatest c has code next grows so_far =
    let number = c.args.self.now.number in
    let twice : 2 * number ≡ number * 2 = omega arith in
    subst (λ m. IsGreatestSoFar has next m c.args.self.now.rows) twice
    (greater_without has code next number c.args.self.now.rows c.args.plane.now grows so_far (c.has_row_with.ensures.none c.if-has_row_with.false))
