use Rattle.bw_mask.proofs.Tables.{or_of_assoc, or_of_comm, or_of_same, or_of_True, or_of_False}
use Rattle.bw_mask.proofs.laws.or_of_truths.Goals as goal

pub returns : goal.returns
returns c = record { grouping = or_of_assoc; order = or_of_comm; twice = or_of_same; with_false = or_of_False; with_true = or_of_True }
