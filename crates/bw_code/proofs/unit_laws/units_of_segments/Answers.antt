use Rattle.bw_code.proofs.UnitLemmas.{segment_none, segment_same}
use Rattle.bw_code.proofs.unit_laws.units_of_segments.Goals as goal

pub returns : goal.returns
returns c = record { unneeded = segment_none; own_rows = segment_same }
