use Rattle.bw_cells.specs.Known.{known}
use Rattle.bw_file.specs.Planes.{frame_of}
use Rattle.bw_file.proofs.Complete.{are_planes, cells_back}
use Rattle.bw_file.proofs.laws.columns_are_planes.Goals as goal

pub returns : goal.returns
returns c cells all = (are_planes (frame_of (known cells)).base (frame_of (known cells)).width cells, cells_back cells all)
