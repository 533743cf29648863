use Rattle.std.proofs.Common.{bit_and, get_or, length, ℕ, ◌<◌, ◌≡◌, ◌≤◌}
use Rattle.bw_file.proofs.block.keep_with.Given as goal

-- the bytes so far, and those that are left as they are
abbrev pub invariant-bytes : goal.invariant-bytes
invariant-bytes l = record {
  long : length l.rows ≡ 512;
  each : (i : ℕ) → i < l.j → get_or l.rows i 0 ≡ bit_and (get_or l.initial.rows i 0) (get_or l.plane i 0);
  rest : (i : ℕ) → l.j ≤ i → get_or l.rows i 0 ≡ get_or l.initial.rows i 0;
}
