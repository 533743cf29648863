use Rattle.std.proofs.Common.{None, Some, sym}
use Rattle.bw_sql.specs.Tree.{create_table}
use Rattle.bw_model.specs.declared.content.Content.TheVariants.{Nothing}
use Rattle.bw_model.proofs.Stores.{create_first, created, outcome_is}
use Rattle.bw_model.proofs.steps.create_table.Goals as goal

pub returns-in-Some-clause-outcome : goal.returns-in-Some-clause-outcome
returns-in-Some-clause-outcome c =
    let store = c.args.tables.now.items in
    let name = c.args.create.now.table in
    let columns = c.args.create.now.columns.items in
    sym (outcome_is store Nothing (create_table name columns) (Some c.in-Some.refusal)
    (create_first store name columns c.in_ok-headers.headers.items c.create_tests.result (Some c.in-Some.refusal)
    (rw c.deref.ensures.value at c.in_ok-headers.ensures) (rw (c.deref-4.ensures.value, c.deref-5.ensures.value) at c.create_tests.ensures) c.in-Some.ensures))

pub returns-clause-outcome : goal.returns-clause-outcome
returns-clause-outcome c =
    let store = c.args.tables.now.items in
    let name = c.args.create.now.table in
    let columns = c.args.create.now.columns.items in
    let none = create_first store name columns c.in_ok-headers.headers.items c.create_tests.result None
    (rw c.deref.ensures.value at c.in_ok-headers.ensures) (rw (c.deref-4.ensures.value, c.deref-5.ensures.value) at c.create_tests.ensures) c.in_default.ensures in
    created store c.push.new.self.items name c.in_ok-name.name columns c.in_ok-headers.headers.items c.new.result none c.in_ok-name.ensures
    (rw c.deref.ensures.value at c.in_ok-headers.ensures) c.new.ensures c.in_ok-push.ensures.items
