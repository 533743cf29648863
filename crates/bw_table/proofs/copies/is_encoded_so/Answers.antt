use Rattle.bw_table.proofs.Copied.{integers_by_range}
use Rattle.bw_table.proofs.copies.is_encoded_so.Goals as goal

pub returns-in-All : goal.returns-in-All
returns-in-All c =
    λ _. integers_by_range c.encoding.result.now c.args.column.now.values (rw c.encoding.ensures.is c.encoding.ensures.sound) (rw c.encoding.ensures.is c.encoding.ensures.coded) (rw c.in-All.is at c.range.ensures.meets)
