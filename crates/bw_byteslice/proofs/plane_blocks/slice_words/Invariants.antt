use Rattle.std.proofs.Common.{[], get_or, length, ℕ, ◌+◌, ◌-◌, ◌<◌, ◌≡◌, ◌≤◌}
use Rattle.bw_byteslice.proofs.plane_blocks.slice_words.Given as goal

-- the words so far
abbrev pub invariant-loop-t : goal.invariant-loop-t
invariant-loop-t l = record {
  long : length l.words ≡ 8;
  planes : (t : ℕ) → t < l.t → l.spare ≤ l.low + t → get_or l.words t 0 ≡ get_or (get_or l.block (l.low + t - l.spare) []) l.j 0;
  below : (t : ℕ) → l.low + t < l.spare → get_or l.words t 0 ≡ 0;
}
