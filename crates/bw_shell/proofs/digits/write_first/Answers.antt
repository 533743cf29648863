use Rattle.std.proofs.Common.{◌≡◌, ◌+◌, ◌-◌, ◌++◌, ◌∙◌, ap, arith, drop}
use Rattle.std.specs.Fmt.{decimal}
use Rattle.bw_shell.proofs.NumberTexts.{first_length, first_room, first_text}
use Rattle.bw_shell.proofs.digits.write_first.Goals as goal

pub overflow_sub-end : goal.overflow_sub-end
overflow_sub-end c = first_room c.args.n c.args.end c.requires.small c.requires.room

pub write_pair-requires-clause-inside : goal.write_pair-requires-clause-inside
write_pair-requires-clause-inside c = omega (arith, c.requires.inside, first_room c.args.n c.args.end c.requires.small c.requires.room)

pub overflow_sub-result-2 : goal.overflow_sub-result-2
overflow_sub-result-2 c = omega (arith, c.requires.room, first_length c.args.n c.requires.small)

pub returns-clause-start : goal.returns-clause-start
returns-clause-start c = omega (arith, c.requires.room, first_length c.args.n c.requires.small)

pub returns-clause-written : goal.returns-clause-written
returns-clause-written c =
    let room = first_room c.args.n c.args.end c.requires.small c.requires.room in
    let whole : c.args.end - 2 + 2 ≡ c.args.end = omega (arith, room) in
    first_text c.args.n c.args.end c.write_pair.new.bytes (drop (c.args.end - 2 + 2) c.args.bytes.now) c.requires.small room c.write_pair.ensures
    ∙ ap (λ k. decimal c.args.n ++ drop k c.args.bytes.now) whole
