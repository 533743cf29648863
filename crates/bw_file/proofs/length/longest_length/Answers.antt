use Rattle.std.proofs.Common.{ap, arith, ◌*◌}
use Rattle.bw_file.proofs.Longest.{sizes_short}
use Rattle.bw_file.proofs.length.longest_length.Goals as goal

pub returns : goal.returns
returns c columns count long =
    omega (arith, c.headers_size.ensures.size, sizes_short c.args.rows c.planes_size.result c.planes_size.ensures.value columns long, ap (λ n. n * c.planes_size.result) count)
