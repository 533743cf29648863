use Rattle.bw_shell.proofs.OtherFiles.{other_file}
use Rattle.bw_shell.proofs.laws.other_files_stay.Goals as goal

pub returns : goal.returns
returns c before after tree reply file known answers elsewhere = (other_file before tree reply after file known elsewhere answers).same
