use Rattle.bw_model.proofs.Naming.{names_kept, no_names}
use Rattle.bw_model.proofs.Replied.{replied}
use Rattle.bw_model.proofs.laws.replies_are_told.Goals as goal

pub returns : goal.returns
returns c = record { empty = no_names; kept = names_kept; told = replied }
