use Rattle.bw_csvload.proofs.Fits.{rows_in_file}
use Rattle.bw_csvload.proofs.laws.rows_fit.Goals as goal

pub returns : goal.returns
returns c types first bytes few near = rows_in_file types few first bytes near
