use Rattle.bw_code.proofs.Fits.{fit_codes, one_fit}
use Rattle.bw_code.proofs.laws.fits_of_values.Goals as goal

pub returns : goal.returns
returns c = record { coded = fit_codes; one_fit = one_fit }
