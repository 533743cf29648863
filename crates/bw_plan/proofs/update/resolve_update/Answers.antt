use Rattle.std.proofs.Common.{option_map}
use Rattle.std.specs.List.{list_all}
use Rattle.bw_sql.specs.Tree.{condition_of}
use Rattle.std.proofs.lemmas.Bool.{not-false}
use Rattle.bw_model.specs.Refusals.{may_be_set, set_columns, set_tests}
use Rattle.bw_model.specs.Store.{are_distinct, type_named}
use Rattle.bw_model.proofs.Passing.{none_holds}
use Rattle.bw_plan.proofs.SetLaws.{settable}
use Rattle.bw_plan.proofs.update.resolve_update.Goals as goal

pub returns-clause-settable : goal.returns-clause-settable
returns-clause-settable c =
    let none = none_holds (set_tests c.args.headers.now c.args.sets.now (option_map condition_of c.args.condition.now)) c.in_ok-check_sets.ensures.0 in
    settable c.args.headers.now c.args.sets.now c.in_ok-sets.sets.items c.in_ok-sets.ensures
    (not-false (are_distinct (set_columns c.args.sets.now)) none.1.1.1.0)
    (not-false (list_all (λ set. may_be_set (type_named c.args.headers.now set.column) set.source) c.args.sets.now) none.1.1.1.1.1.0)
