use Rattle.std.proofs.Common.{length}
use Rattle.bw_file.proofs.length.+sizes_by_ends.Given as goal

abbrev pub decreases-sizes_by_ends : goal.decreases-sizes_by_ends
decreases-sizes_by_ends l = length l.ends.now
