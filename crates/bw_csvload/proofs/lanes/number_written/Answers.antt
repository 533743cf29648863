use Rattle.std.proofs.Common.{Some, ap, sym, ◌∙◌}
use Rattle.std.specs.Bool.{then_some}
use Rattle.std.specs.Str.Parse.{digits_value}
use Rattle.bw_csvload.proofs.Eights.{all_digits, lanes_below, number_from_lanes, some_other}
use Rattle.bw_csvload.proofs.lanes.number_written.Goals as goal

pub returns-then-others-ne0-clause-number : goal.returns-then-others-ne0-clause-number
returns-then-others-ne0-clause-number c =
    sym (ap (λ b. then_some b (digits_value 10 c.args.bytes)) (some_other c.args.bytes c.fits-bytes.0 c.fits-bytes.1 c.if-others-ne0.true))

pub number_of-requires : goal.number_of-requires
number_of-requires c = lanes_below c.args.bytes c.fits-bytes.0 c.fits-bytes.1 c.if-others-ne0.false

pub returns-clause-number : goal.returns-clause-number
returns-clause-number c =
    rw (all_digits c.args.bytes c.fits-bytes.0 c.fits-bytes.1 c.if-others-ne0.false)
    (ap Some (c.from.ensures ∙ c.number_of.ensures.number ∙ number_from_lanes c.args.bytes c.fits-bytes.0 c.fits-bytes.1 c.if-others-ne0.false))
