use Rattle.bw_sql.proofs.Spelled.{says_files}
use Rattle.bw_sql.proofs.statement_text.files_are_files.Goals as goal

pub returns : goal.returns
returns c = says_files
