use Rattle.std.proofs.Common.{◌∙◌}
use Rattle.bw_lane.specs.Rows.{row_in}
use Rattle.bw_lane.proofs.Bits.{all_rows, all_set, all_set_len, len_xor, one_of_three, one_of_two, row_and, row_or, row_xor}
use Rattle.bw_lane.proofs.planes.add_const_step.Goals as goal

pub returns-then-bit-clause-sum : goal.returns-then-bit-clause-sum
returns-then-bit-clause-sum c j h =
    let a = c.args.a.now in
    let carry = c.args.carry.now in
    row_xor _ all_set (len_xor a carry c.told-a c.told-carry) all_set_len j h ∙ rw (row_xor a carry c.told-a c.told-carry j h, all_rows j h, c.if-bit.true) (one_of_three (row_in a j) (row_in carry j))

pub returns-then-bit-clause-carry : goal.returns-then-bit-clause-carry
returns-then-bit-clause-carry c j h = rw (row_or c.args.a.now c.args.carry.now c.told-a c.told-carry j h, c.if-bit.true)

pub returns-else-bit-clause-sum : goal.returns-else-bit-clause-sum
returns-else-bit-clause-sum c j h = rw (row_xor c.args.a.now c.args.carry.now c.told-a c.told-carry j h, c.if-bit.false) (one_of_two (row_in c.args.a.now j) (row_in c.args.carry.now j))

pub returns-else-bit-clause-carry : goal.returns-else-bit-clause-carry
returns-else-bit-clause-carry c j h = rw (row_and c.args.a.now c.args.carry.now c.told-a c.told-carry j h, c.if-bit.false)
