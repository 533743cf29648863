use Rattle.bw_split.proofs.StretchLemmas.{first_len}
use Rattle.bw_split.proofs.stretch.len_before.Goals as goal

pub returns : goal.returns
returns c = first_len c.args.byte c.args.bytes.now c.memchr.result c.unwrap_or.result c.memchr.ensures c.unwrap_or.ensures
