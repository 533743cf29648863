use Rattle.bw_horizontal.proofs.Gathered.{all_put}
use Rattle.bw_horizontal.proofs.gather.finish.Goals as goal

pub returns-clause-rows : goal.returns-clause-rows
returns-clause-rows c wanted before = all_put c.args.out.now c.put_bits.new.self c.args.at c.args.rest wanted before c.put_bits.ensures.inside c.put_bits.ensures.outside
