use Rattle.bw_shell.proofs.FileFailures.{read, written}
use Rattle.bw_shell.proofs.laws.file_errors_are_failures.Goals as goal

pub returns : goal.returns
returns c = record {
  written = λ before after tree answers. written before tree after answers;
  read = λ before after tree name bytes reading filed answers. read before tree after name bytes reading filed answers;
}
