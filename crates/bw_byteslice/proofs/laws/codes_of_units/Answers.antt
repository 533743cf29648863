use Rattle.bw_byteslice.proofs.Bytes.{code_here, stored_here}
use Rattle.bw_byteslice.proofs.laws.codes_of_units.Goals as goal

pub returns : goal.returns
returns c = record { stored = stored_here; codes = code_here }
