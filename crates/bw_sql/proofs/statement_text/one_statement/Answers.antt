use Rattle.bw_sql.proofs.WholeStatement.{no_fault, one_fault, says_once}
use Rattle.bw_sql.proofs.statement_text.one_statement.Goals as goal

pub returns : goal.returns
returns c = record { same = says_once; no_fault = no_fault; one_fault = one_fault }
