use Rattle.bw_lex.proofs.Splits.{closed_run_tested, last_run_tested, rest_ends, rest_front}
use Rattle.bw_lex.proofs.script.parts.Goals as goal

pub returns-then-not-is_closed-clause-parts : goal.returns-then-not-is_closed-clause-parts
returns-then-not-is_closed-clause-parts c =
    let script = c.args.script.now in
    let at = c.loop-parts.start in
    let run = c.first_run-run.result in
    (last_run_tested script c.loop-parts.parts.items at c.loop-parts.invariant run
    (rest_front at script run c.first_run-run.ensures.front) (rest_ends at run.len script c.first_run-run.ensures.ends)
    c.add_unless_blank.new.parts.items c.in_ok-add_unless_blank.ensures c.if-not-is_closed.true).are

pub returns-then-not-is_closed-clause-each : goal.returns-then-not-is_closed-clause-each
returns-then-not-is_closed-clause-each c =
    let script = c.args.script.now in
    let at = c.loop-parts.start in
    let run = c.first_run-run.result in
    (last_run_tested script c.loop-parts.parts.items at c.loop-parts.invariant run
    (rest_front at script run c.first_run-run.ensures.front) (rest_ends at run.len script c.first_run-run.ensures.ends)
    c.add_unless_blank.new.parts.items c.in_ok-add_unless_blank.ensures c.if-not-is_closed.true).each

pub loop-parts-preserved : goal.loop-parts-preserved
loop-parts-preserved c =
    let script = c.args.script.now in
    let at = c.loop-parts.start in
    let run = c.first_run-run.result in
    closed_run_tested script c.loop-parts.parts.items at c.loop-parts.invariant run
    (rest_front at script run c.first_run-run.ensures.front) (rest_ends at run.len script c.first_run-run.ensures.ends)
    c.add_unless_blank.new.parts.items c.in_ok-add_unless_blank.ensures c.if-not-is_closed.false
