use Rattle.std.proofs.Common.{get_or, length, ℕ, ◌%◌, ◌*◌, ◌/◌, ◌<◌, ◌^◌, ◌≡◌}
use Rattle.bw_byteslice.specs.Slices.{shift_of}
use Rattle.bw_byteslice.proofs.storage.raise_parts.Given as goal

abbrev pub invariant-loop-r : goal.invariant-loop-r
invariant-loop-r l = record {
  len : length l.numbers ≡ length l.fn.numbers;
  numbers : (r : ℕ) → r < l.r → get_or l.numbers r 0 ≡ get_or l.codes r 0 * 2 ^ shift_of l.width / 2 ^ l.down % 2 ^ 32;
}
