use Rattle.std.proofs.Common.{◌∙◌, ap, option_map}
use Rattle.bw_sql.specs.Tree.{condition_of}
use Rattle.bw_model.specs.declared.reply.Reply.TheVariants.{Count}
use Rattle.bw_plan.specs.Plans.{plan_of}
use Rattle.bw_engine.proofs.LiveLaws.{count_condition}
use Rattle.bw_engine.proofs.Updated.{deleted_table}
use Rattle.bw_engine.proofs.delete.delete_rows.Goals as goal

pub returns-clause-reply : goal.returns-clause-reply
returns-clause-reply c =
    let table = c.args.table.now in
    let condition = option_map condition_of c.args.condition.now in
    let plan = option_map plan_of c.in_ok-condition.condition in
    let told = rw c.headers.ensures.value at c.in_ok-condition.ensures in
    let found = c.in_ok-found.found in
    let are = c.in_ok-found.ensures.found in (
      told.0,
      (
        ap (λ n. Count n) (c.count.ensures.rows ∙ count_condition table.headers condition plan told.1 table.slots found are),
        deleted_table table c.delete.new.self condition plan found told.1 are c.delete.ensures.headers c.delete.ensures.slots,
      ),
    )

pub returns-clause-stored : goal.returns-clause-stored
returns-clause-stored c =
    let told = rw c.headers.ensures.value at c.in_ok-condition.ensures in
    let are = rw told.1 at c.in_ok-found.ensures.found in
    record { found = c.in_ok-found.found; are = are; slots = c.delete.ensures.slots; encodings = c.delete.ensures.encodings }
