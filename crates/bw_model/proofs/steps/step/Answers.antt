use Rattle.std.proofs.Common.{arith}
use Rattle.bw_model.proofs.Values.{whole_again}
use Rattle.bw_model.proofs.steps.step.Goals as goal

pub returns-in-Select-clause-outcome : goal.returns-in-Select-clause-outcome
returns-in-Select-clause-outcome c = rw (c.in-Select.is, ← c.store.view_is, ← c.deref-in-Select.ensures.value) c.select.ensures

pub returns-in-Update-clause-outcome : goal.returns-in-Update-clause-outcome
returns-in-Update-clause-outcome c =
    rw (c.in-Update.is, ← c.store.view_is, ← c.deref_mut-in-Update.ensures.value, whole_again c.store.inside.tables.len c.update.new.tables c.deref_mut-in-Update.result.now (omega (arith, c.update.auto.tables)) (omega (arith, c.update.auto.tables, c.deref_mut-in-Update.ensures.len)))
    c.update.ensures.outcome

pub returns-in-Delete-clause-outcome : goal.returns-in-Delete-clause-outcome
returns-in-Delete-clause-outcome c =
    rw (c.in-Delete.is, ← c.store.view_is, ← c.deref_mut-in-Delete.ensures.value, whole_again c.store.inside.tables.len c.delete.new.tables c.deref_mut-in-Delete.result.now (omega (arith, c.delete.auto.tables)) (omega (arith, c.delete.auto.tables, c.deref_mut-in-Delete.ensures.len)))
    c.delete.ensures.outcome
