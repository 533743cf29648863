use Rattle.bw_csvload.proofs.Eights.{weighed}
use Rattle.bw_csvload.proofs.lanes.number_of.Goals as goal

pub overflow_mul-result : goal.overflow_mul-result
overflow_mul-result c = (weighed c.args.digits c.fits-digits.0 c.requires).products_fit

pub overflow_add-result : goal.overflow_add-result
overflow_add-result c = (weighed c.args.digits c.fits-digits.0 c.requires).sums_fit

pub returns : goal.returns
returns c = let w = weighed c.args.digits c.fits-digits.0 c.requires in record { number = w.number; small = w.small }
