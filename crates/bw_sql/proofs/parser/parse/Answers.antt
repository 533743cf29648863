use Rattle.bw_sql.proofs.WholeStatement.{found, only}
use Rattle.bw_sql.proofs.parser.parse.Goals as goal

pub returns-clause-found : goal.returns-clause-found
returns-clause-found c = found _ _ c.read_whole.ensures

pub returns-clause-fault : goal.returns-clause-fault
returns-clause-fault c = only _ _ c.read_whole.ensures
