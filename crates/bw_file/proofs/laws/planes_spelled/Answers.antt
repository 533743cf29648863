use Rattle.bw_file.proofs.Spelled.{planes-spelled, presence-spelled}
use Rattle.bw_file.proofs.laws.planes_spelled.Goals as goal

pub returns : goal.returns
returns c rows k base present planes are small low = (presence-spelled rows base k present planes are small, planes-spelled rows base k present planes are low)
