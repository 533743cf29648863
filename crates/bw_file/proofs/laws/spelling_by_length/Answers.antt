use Rattle.std.proofs.Common.{ap, length, ◌∙◌}
use Rattle.bw_file.proofs.Fronts.{length-spelling}
use Rattle.bw_file.proofs.laws.spelling_by_length.Goals as goal

pub returns : goal.returns
returns c version bytes t s = ap length s.bytes_are ∙ length-spelling version t
