use Rattle.std.proofs.Common.{get_or, length, ℕ, ◌%◌, ◌*◌, ◌/◌, ◌<◌, ◌^◌, ◌≡◌}
use Rattle.bw_vertical.proofs.bytes.byte_of_each.Given as goal

-- the bytes so far
abbrev pub invariant-loop-r : goal.invariant-loop-r
invariant-loop-r l = record {
  long : length l.bytes ≡ 64;
  done : (q : ℕ) → q < l.r → get_or l.bytes q 0 ≡ get_or l.pairs q 0 / 2 ^ (8 * l.j) % 2 ^ 8;
}
