use Rattle.bw_code.specs.Sameness.{same_decides}
use Rattle.bw_code.proofs.laws.equal_encodings.Goals as goal

pub returns : goal.returns
returns c = same_decides
