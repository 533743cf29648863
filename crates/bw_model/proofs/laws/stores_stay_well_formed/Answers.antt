use Rattle.bw_model.proofs.Kept.{empty, kept}
use Rattle.bw_model.proofs.laws.stores_stay_well_formed.Goals as goal

pub returns : goal.returns
returns c = record { empty = empty; kept = kept }
