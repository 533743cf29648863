use Rattle.bw_file.proofs.EndSizes.{more_sized}
use Rattle.bw_file.proofs.length.+sizes_by_ends.Goals as goal

pub returns-in-len1-up-clause-size : goal.returns-in-len1-up-clause-size
returns-in-len1-up-clause-size t c =
    more_sized c.args.rows c.args.ends.now c.in-len1-up.len_at_least c.spanning.result c.planes_size.result c.sizes_by_ends.result c.spanning.ensures.fits c.planes_size.ensures.value c.sizes_by_ends.ensures.size
