use Rattle.bw_sql.proofs.LimitLemmas.{all_read, too_large}
use Rattle.bw_sql.proofs.limits.long_number.Goals as goal

pub returns-in-None : goal.returns-in-None
returns-in-None c within =
    too_large c.loop-rest.n c.loop-rest.rest.now c.args.digits.now c.in-len1-up.len_at_least c.loop-rest.invariant.0 c.in-None.ensures within

pub returns : goal.returns
returns c = all_read c.loop-rest.n c.loop-rest.rest.now c.args.digits.now c.loop-rest.invariant.0 c.in_default.len_below c.loop-rest.invariant.2
