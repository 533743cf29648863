use Rattle.std.proofs.Common.{get_or, length, ℕ, ◌<◌, ◌≡◌}
use Rattle.bw_code.specs.Units.{digit}
use Rattle.bw_byteslice.proofs.storage.put_few_bytes.Given as goal

abbrev pub invariant-loop-r : goal.invariant-loop-r
invariant-loop-r l = record {
  len : length l.bytes ≡ length l.fn.bytes;
  bytes : (r : ℕ) → r < l.r → get_or l.bytes r 0 ≡ digit 256 l.m (get_or l.numbers r 0) l.i;
}
