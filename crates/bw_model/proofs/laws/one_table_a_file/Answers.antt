use Rattle.bw_model.proofs.OneTable.{one_file, one_held}
use Rattle.bw_model.proofs.laws.one_table_a_file.Goals as goal

pub returns : goal.returns
returns c = record { tables = one_held; bytes = one_file }
