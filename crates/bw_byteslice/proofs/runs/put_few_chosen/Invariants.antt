use Rattle.std.proofs.Common.{false, get_or, length, true, ℕ, ◌<◌, ◌≡◌}
use Rattle.bw_byteslice.proofs.runs.put_few_chosen.Given as goal

-- the bytes before this one are put, and the others are as they were
abbrev pub invariant-loop-r : goal.invariant-loop-r
invariant-loop-r l = record {
  len : length l.kept ≡ length l.fn.kept;
  small : (k : ℕ) → get_or l.kept k 0 < 256;
  put : (k : ℕ) → k < l.r → get_or l.chosen k false ≡ true → get_or l.kept k 0 ≡ get_or l.bytes k 0;
  kept : (k : ℕ) → get_or l.chosen k false ≡ false → get_or l.kept k 0 ≡ get_or l.fn.kept k 0;
}
