use Rattle.std.proofs.Common.{subst, sym}
use Rattle.bw_model.specs.Store.{AreHeaders}
use Rattle.bw_table.specs.Tables.{slots_in}
use Rattle.bw_engine.proofs.Chosen.{either_way, still_headers}
use Rattle.bw_engine.proofs.LiveRows.{rebuilt_rows}
use Rattle.std.proofs.lemmas.Result.{on_ok_weaker}
use Rattle.bw_engine.proofs.table.Table.rebuild.Goals as goal

pub invariant_of-self : goal.invariant_of-self
invariant_of-self c =
    either_way c.rebuild.result (λ chosen. still_headers c.args.choices.now c.self.inside.table.headers c.rebuild.new.self.headers chosen c.self.invariant (rw (← c.self.view_is) at c.requires))
    (λ same. subst (λ t. AreHeaders t.headers) (sym same) c.self.invariant) c.rebuild.ensures.headers c.rebuild.ensures.unchanged

pub returns-clause-rows : goal.returns-clause-rows
returns-clause-rows c =
    rw (← c.self.view_is) (on_ok_weaker c.rebuild.result (λ rebuilt. rebuilt_rows (slots_in c.self.inside.table) (slots_in c.rebuild.new.self) c.args.choices.now rebuilt) c.rebuild.ensures.rebuilt)
