use Rattle.bw_table.specs.Tables.{slots_in}
use Rattle.bw_engine.proofs.LiveRows.{inserted_rows}
use Rattle.bw_engine.proofs.table.Table.insert.Goals as goal
use Rattle.bw_engine.proofs.table.Table.insert.Goals.{in-Ok, in-Err-Memory}

pub returns-clause-rows : goal.returns-clause-rows
returns-clause-rows c =
    elim c.match-insert.branch [
      | in-Ok w ↦ rw (w.result-is, ← c.self.view_is) (inserted_rows (slots_in c.self.inside.table) (slots_in c.insert.new.self) c.args.rows.now (rw w.in-Ok.is at c.insert.ensures.inserted))
      | in-Err-Memory w ↦ rw w.result-is tt
    ]
