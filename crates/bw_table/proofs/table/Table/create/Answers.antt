use Rattle.bw_table.proofs.Heads.{empty_columns, empty_first, empty_headers}
use Rattle.bw_table.proofs.table.Table.create.Goals as goal

pub invariant_of-slots : goal.invariant_of-slots
invariant_of-slots g c = empty_columns c.args.headers.items c.in_ok-columns.columns.items c.in_ok-filled.field-0 c.in_ok-filled.ensures c.in_ok-columns.ensures

pub invariant_of-result : goal.invariant_of-result
invariant_of-result g c = empty_headers c.args.headers.items c.in_ok-columns.columns.items c.in_ok-filled.field-0 c.in_ok-filled.ensures c.in_ok-columns.ensures c.requires.held

pub returns-clause-encodings : goal.returns-clause-encodings
returns-clause-encodings g c = empty_first c.args.headers.items c.in_ok-columns.columns.items c.in_ok-filled.field-0 c.in_ok-filled.ensures c.in_ok-columns.ensures
