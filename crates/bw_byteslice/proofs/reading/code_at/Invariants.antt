use Rattle.std.proofs.Common.{◌≡◌}
use Rattle.bw_byteslice.specs.Slices.{number_of}
use Rattle.bw_byteslice.specs.Storing.{byte_of, bytes_of}
use Rattle.bw_byteslice.proofs.reading.code_at.Given as goal

abbrev pub invariant-loop-i : goal.invariant-loop-i
invariant-loop-i l = l.number ≡ number_of l.i (byte_of (bytes_of l.slices) l.j)
