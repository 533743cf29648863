use Rattle.std.proofs.Common.{arith, subst, ◌*◌, ◌≡◌}
use Rattle.bw_file.specs.Descents.{IsLeastSoFar}
use Rattle.bw_file.proofs.Descending.{less_with, less_without}
use Rattle.bw_file.proofs.descent.Reached.less.Goals as goal

pub returns-then-has_row_without-clause-least : goal.returns-then-has_row_without-clause-least
returns-then-has_row_without-clause-least c has code next grows so_far =
    let number = c.args.self.now.number in
    let twice : 2 * number ≡ number * 2 = omega arith in
    subst (λ m. IsLeastSoFar has next m c.keep_without.new.rows) twice
    (less_without has code next number c.args.self.now.rows c.args.plane.now grows so_far c.keep_without.new.rows c.keep_without.ensures (c.has_row_without.ensures.some c.if-has_row_without.true))

pub returns-else-has_row_without-clause-least : goal.returns-else-has_row_without-clause-least
returns-else-has_row_without-clause-least c has code next grows so_far =
    less_with has code next c.args.self.now.number c.args.self.now.rows c.args.plane.now grows so_far (c.has_row_without.ensures.none c.if-has_row_without.false)
