use Rattle.std.proofs.Common.{length}
use Rattle.bw_model.proofs.file_length.+headers_size.Given as goal

abbrev pub decreases-headers_size : goal.decreases-headers_size
decreases-headers_size l = length l.headers.now
