use Rattle.bw_engine.proofs.NewTables.{created_new}
use Rattle.bw_engine.proofs.table.Table.create.Goals as goal

pub returns-clause-is_new : goal.returns-clause-is_new
returns-clause-is_new c = created_new c.in_ok-create.field-0 c.in_ok-create.ensures.slots c.in_ok-create.ensures.encodings
