use Rattle.std.proofs.Common.{cond, get_or, length, ℕ, ◌%◌, ◌*◌, ◌+◌, ◌-◌, ◌/◌, ◌<◌, ◌≡◌}
use Rattle.bw_mask.specs.Masks.{bit_of}
use Rattle.bw_vertical.proofs.bytes.exchange.Given as goal

-- the words so far
abbrev pub invariant-loop-i : goal.invariant-loop-i
invariant-loop-i l = record {
  long : length l.next ≡ 8;
  done : (q r : ℕ) → q < 2 * l.i → r < 64 → bit_of (get_or l.next q 0) r
      ≡ cond (bit_of l.mask r) (bit_of (get_or l.words (q / 2) 0) (l.s * (q % 2) + r)) (bit_of (get_or l.words (4 + q / 2) 0) (l.s * (q % 2) + r - l.s));
}
