use Rattle.bw_file.proofs.Frames.{frame_fits}
use Rattle.bw_file.proofs.laws.frames_fit.Goals as goal

pub returns : goal.returns
returns c = frame_fits
