use Rattle.std.proofs.Common.{◌≡◌, ◌∙◌, sym, ap, subst}
use Rattle.bw_sql.specs.Reading.{Gives, range_at}
use Rattle.bw_sql.specs.Tree.{condition_of}
use Rattle.bw_sql.proofs.ListRuns.{tail_at-range}
use Rattle.bw_sql.proofs.parser.Parser.tail.Goals as goal

pub returns-in-None-clause-read : goal.returns-in-None-clause-read
returns-in-None-clause-read c n h =
    let one = c.if-eat_word.ensures in
    let two = c.if-eat_word-2.ensures in
    let three = c.in-None.ensures in
    let same : c.eat_comparison.new.self.rest.now ≡ c.args.self.now.rest.now = three.0 ∙ two.0 ∙ one.0 in
    let plain = tail_at-range n c.args.operand c.args.self.now.rest.now one.1 (λ us is. two.1 us (one.0 ∙ is)) (λ op us is. three.1 op us (two.0 ∙ one.0 ∙ is)) in
    subst (Gives condition_of c.range-in-None.result c.range-in-None.new.self.rest.now) (sym (plain ∙ ap (range_at n c.args.operand) (sym same))) (c.range-in-None.ensures.read n (rw same h))
