use Rattle.std.proofs.Common.{arith}
use Rattle.bw_mask.specs.Masks.{row_in}
use Rattle.bw_aggregate.proofs.Marks.{marked_few, marked_words}
use Rattle.bw_aggregate.proofs.rows.count_rows.Goals as goal

pub returns-clause-is : goal.returns-clause-is
returns-clause-is c = omega (arith, c.count_words.ensures, marked_words c.args.rows.now c.requires (λ k. omega (arith, c.type_inv.rows k)))

pub returns-clause-few : goal.returns-clause-few
returns-clause-few c = omega (arith, c.count_words.ensures, marked_words c.args.rows.now c.requires (λ k. omega (arith, c.type_inv.rows k)), marked_few 256 (row_in c.args.rows.now))
