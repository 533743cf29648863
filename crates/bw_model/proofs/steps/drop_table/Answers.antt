use Rattle.std.proofs.Common.{sym}
use Rattle.bw_model.proofs.Dropped.{dropped, not_dropped}
use Rattle.bw_model.proofs.steps.drop_table.Goals as goal

pub returns-in-Some : goal.returns-in-Some
returns-in-Some c =
    rw c.remove.ensures.items
    (dropped c.args.name.now c.args.tables.now.items c.in-Some.place c.remove.result (sym (rw c.deref.ensures.value at c.in-Some.ensures)) c.remove.ensures.value)

pub returns-in-None : goal.returns-in-None
returns-in-None c = not_dropped c.args.name.now c.args.tables.now.items (sym (rw c.deref.ensures.value at c.in-None.ensures))
