use Rattle.bw_model.specs.Refusals.{select_tests}
use Rattle.bw_sql.specs.Tree.{select_of}
use Rattle.bw_model.proofs.Passing.{none_holds}
use Rattle.bw_plan.proofs.select.resolve_select.Goals as goal

pub shown_plan-requires-clause-there : goal.shown_plan-requires-clause-there
shown_plan-requires-clause-there c = (none_holds (select_tests (select_of c.args.query.now) c.args.headers.now) c.in_ok-check_select.ensures.tests.0).0

pub shown_plan-requires-clause-grouping : goal.shown_plan-requires-clause-grouping
shown_plan-requires-clause-grouping c = (none_holds (select_tests (select_of c.args.query.now) c.args.headers.now) c.in_ok-check_select.ensures.tests.0).1.1.0

pub shown_plan-requires-clause-apart : goal.shown_plan-requires-clause-apart
shown_plan-requires-clause-apart c = (none_holds (select_tests (select_of c.args.query.now) c.args.headers.now) c.in_ok-check_select.ensures.tests.0).1.1.1.1.0
