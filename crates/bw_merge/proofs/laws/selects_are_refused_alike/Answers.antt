use Rattle.bw_merge.proofs.Items.{refused_alike}
use Rattle.bw_merge.proofs.laws.selects_are_refused_alike.Goals as goal

pub returns : goal.returns
returns c = refused_alike
