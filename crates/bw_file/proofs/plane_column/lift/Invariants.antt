use Rattle.std.proofs.Common.{get_or, length, ℕ, ◌%◌, ◌+◌, ◌<◌, ◌^◌, ◌≡◌, ◌≤◌}
use Rattle.std.specs.Prelude.{if◌then◌else◌}
use Rattle.bw_mask.specs.Masks.{bit_of}
use Rattle.bw_file.proofs.plane_column.lift.Given as goal

abbrev pub invariant-numbers : goal.invariant-numbers
invariant-numbers l = record {
  len : length l.numbers ≡ length l.fn.numbers;
  before : (r : ℕ) → r < l.r → get_or l.numbers r 0 ≡ (if bit_of l.there r then (get_or l.fn.numbers r 0 + l.more) % 2 ^ 64 else get_or l.fn.numbers r 0);
  after : (r : ℕ) → l.r ≤ r → get_or l.numbers r 0 ≡ get_or l.fn.numbers r 0;
}
