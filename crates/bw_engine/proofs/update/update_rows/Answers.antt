use Rattle.std.proofs.Common.{◌∙◌, ap, option_map}
use Rattle.std.specs.List.{list_all}
use Rattle.bw_sql.specs.Tree.{condition_of}
use Rattle.bw_model.specs.Condition.{found_rows}
use Rattle.bw_model.specs.Refusals.{copy_test, fits_in, set_tests}
use Rattle.bw_model.specs.declared.reply.Reply.TheVariants.{Count}
use Rattle.bw_plan.specs.Plans.{plan_of}
use Rattle.bw_engine.specs.Stores.{table_in}
use Rattle.bw_engine.proofs.After.{after_early, after_fault, after_memory, after_none}
use Rattle.bw_engine.proofs.Copies.{copies_are}
use Rattle.bw_engine.proofs.LiveLaws.{count_condition}
use Rattle.bw_engine.proofs.Updated.{updated_table}
use Rattle.bw_engine.proofs.update.update_rows.Goals as goal

pub returns-in_err-plan-clause-reply : goal.returns-in_err-plan-clause-reply
returns-in_err-plan-clause-reply c =
    let table = c.args.table.now in
    let condition = option_map condition_of c.args.condition.now in
    let told = rw c.headers.ensures.value at c.in_err-plan.ensures.plan in
    after_early (set_tests table.headers c.args.sets.now condition) (copy_test c.args.sets.now condition (table_in table)) c.from_residual.result _ _ told c.from_residual.ensures.1

pub returns-in_err-found-clause-reply : goal.returns-in_err-found-clause-reply
returns-in_err-found-clause-reply c =
    let table = c.args.table.now in
    let condition = option_map condition_of c.args.condition.now in
    let told = rw c.headers.ensures.value at c.in_ok-plan.ensures.plan in
    after_memory (set_tests table.headers c.args.sets.now condition) (copy_test c.args.sets.now condition (table_in table)) c.from_residual-in_err-found.result _ told.0 c.from_residual-in_err-found.ensures.1

pub returns-in_err-update-clause-reply : goal.returns-in_err-update-clause-reply
returns-in_err-update-clause-reply c =
    let table = c.args.table.now in
    let condition = option_map condition_of c.args.condition.now in
    let plan = option_map plan_of c.in_ok-plan.plan.condition in
    let told = rw c.headers.ensures.value at c.in_ok-plan.ensures.plan in
    let fit = copies_are table.headers condition plan told.1.1 table.slots c.in_ok-found.found c.in_ok-found.ensures.found c.args.sets.now c.in_ok-plan.plan.sets.items told.1.0 in
    after_fault (set_tests table.headers c.args.sets.now condition) (list_all (fits_in table.headers c.args.sets.now) (found_rows (table_in table) condition)) c.from_residual-in_err-update.result _ c.in_err-update.field-0.0 told.0
    (rw (c.as_slice.ensures.value, fit) at c.in_err-update.ensures.refusal) c.from_residual-in_err-update.ensures.1

pub returns-clause-reply : goal.returns-clause-reply
returns-clause-reply c =
    let table = c.args.table.now in
    let condition = option_map condition_of c.args.condition.now in
    let plan = option_map plan_of c.in_ok-plan.plan.condition in
    let told = rw c.headers.ensures.value at c.in_ok-plan.ensures.plan in
    let found = c.in_ok-found.found in
    let are = c.in_ok-found.ensures.found in
    let fit = copies_are table.headers condition plan told.1.1 table.slots found are c.args.sets.now c.in_ok-plan.plan.sets.items told.1.0 in
    let fits = rw (c.as_slice.ensures.value, fit) at c.in_ok-update.ensures.fit in (
      after_none (set_tests table.headers c.args.sets.now condition) (list_all (fits_in table.headers c.args.sets.now) (found_rows (table_in table) condition)) told.0 fits,
      (
        ap (λ n. Count n) (c.count.ensures.rows ∙ count_condition table.headers condition plan told.1.1 table.slots found are),
        updated_table table c.update.new.self condition plan found told.1.1 are c.update.ensures.headers c.args.sets.now c.in_ok-plan.plan.sets.items c.headers.ensures.valid c.in_ok-found.ensures.wide told.1.0
            (rw c.as_slice.ensures.value at c.in_ok-update.ensures.slots),
      ),
    )

pub returns-clause-stored : goal.returns-clause-stored
returns-clause-stored c =
    let told = rw c.headers.ensures.value at c.in_ok-plan.ensures.plan in
    let are = rw told.1.1 at c.in_ok-found.ensures.found in
    record { found = c.in_ok-found.found; are = are; sets = c.in_ok-plan.plan.sets.items; named = told.1.0; updated = rw c.as_slice.ensures.value at c.in_ok-update.ensures.updated }
