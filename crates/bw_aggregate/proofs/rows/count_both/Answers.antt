use Rattle.std.proofs.Common.{arith, ◌&&◌}
use Rattle.bw_mask.specs.Masks.{row_in}
use Rattle.bw_aggregate.proofs.Marks.{marked_both, marked_few}
use Rattle.bw_aggregate.proofs.rows.count_both.Goals as goal

pub returns-clause-is : goal.returns-clause-is
returns-clause-is c = omega (arith, c.count_and_words.ensures, marked_both c.args.a.now c.args.b.now c.requires.a c.requires.b (λ k. omega (arith, c.type_inv.a k)))

pub returns-clause-few : goal.returns-clause-few
returns-clause-few c =
    omega (arith, c.count_and_words.ensures, marked_both c.args.a.now c.args.b.now c.requires.a c.requires.b (λ k. omega (arith, c.type_inv.a k)), marked_few 256 (λ j. row_in c.args.a.now j && row_in c.args.b.now j))
