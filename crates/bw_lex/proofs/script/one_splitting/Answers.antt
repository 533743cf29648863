use Rattle.bw_lex.proofs.OneSplit.{put_together, same_parts}
use Rattle.bw_lex.proofs.script.one_splitting.Goals as goal

pub returns-clause-whole : goal.returns-clause-whole
returns-clause-whole c = put_together 0

pub returns-clause-same : goal.returns-clause-same
returns-clause-same c = same_parts 0
