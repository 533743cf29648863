use Rattle.bw_sql.proofs.Spelled.{says_names}
use Rattle.bw_sql.proofs.statement_text.names_are_names.Goals as goal

pub returns : goal.returns
returns c = says_names
