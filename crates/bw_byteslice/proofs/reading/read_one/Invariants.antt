use Rattle.std.proofs.Common.{get_or, length, ℕ, ◌+◌, ◌/◌, ◌<◌, ◌^◌, ◌≡◌}
use Rattle.bw_byteslice.proofs.reading.read_one.Given as goal

abbrev pub invariant-loop-r : goal.invariant-loop-r
invariant-loop-r l = record {
  len : length l.out ≡ length l.fn.out;
  codes : (r : ℕ) → r < l.r → get_or l.out r 0 ≡ get_or l.first (l.at + r) 0 / 2 ^ l.spare;
}
