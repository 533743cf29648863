use Rattle.std.proofs.Common.{◌≡◌, ◌+◌, ◌-◌, arith, append_assoc}
use Rattle.itoa.proofs.Decimal.{decimal_pair, length_pair}
use Rattle.bw_shell.proofs.digits.write_short.Goals as goal

pub overflow_sub-end : goal.overflow_sub-end
overflow_sub-end c = omega (arith, c.requires.room, length_pair c.args.n c.if-n-lt100.false (omega arith))

pub write_pair-requires-clause-inside : goal.write_pair-requires-clause-inside
write_pair-requires-clause-inside c = omega (arith, c.requires.room, c.requires.inside, length_pair c.args.n c.if-n-lt100.false (omega arith))

pub overflow_sub-end-2 : goal.overflow_sub-end-2
overflow_sub-end-2 c = omega (arith, c.requires.room, length_pair c.args.n c.if-n-lt100.false (omega arith))

pub write_first-requires-2-clause-room : goal.write_first-requires-2-clause-room
write_first-requires-2-clause-room c = omega (arith, c.requires.room, length_pair c.args.n c.if-n-lt100.false (omega arith))

pub returns-clause-start : goal.returns-clause-start
returns-clause-start c = omega (arith, c.requires.room, c.write_first-2.ensures.start, length_pair c.args.n c.if-n-lt100.false (omega arith))

pub returns-clause-written : goal.returns-clause-written
returns-clause-written c =
    let long = length_pair c.args.n c.if-n-lt100.false (omega arith) in
    let e : c.args.end - 2 + 2 ≡ c.args.end = omega (arith, c.requires.room, long) in
    rw (c.write_first-2.ensures.written, c.write_pair.ensures, e, decimal_pair c.args.n c.if-n-lt100.false (omega arith), append_assoc)
