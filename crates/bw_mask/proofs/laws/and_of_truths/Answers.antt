use Rattle.bw_mask.proofs.Tables.{and_of_assoc, and_of_comm, and_of_same, and_of_True, and_of_False}
use Rattle.bw_mask.proofs.laws.and_of_truths.Goals as goal

pub returns : goal.returns
returns c = record { grouping = and_of_assoc; order = and_of_comm; twice = and_of_same; with_true = and_of_True; with_false = and_of_False }
