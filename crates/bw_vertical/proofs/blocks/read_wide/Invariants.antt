use Rattle.std.proofs.Common.{get_or, length, ℕ, ◌+◌, ◌-◌, ◌<◌, ◌≡◌, ◌≤◌}
use Rattle.bw_vertical.specs.Storage.{code_of, lists}
use Rattle.bw_vertical.proofs.blocks.read_wide.Given as goal

-- the codes so far
abbrev pub invariant-loop-i : goal.invariant-loop-i
invariant-loop-i l = record {
  long : length l.out ≡ length l.fn.out;
  inside : l.i ≤ length l.out;
  done : (j : ℕ) → j < l.i → get_or l.out j 0 ≡ code_of l.k (lists l.groups) (l.at + j);
}

abbrev pub decreases-loop-i : goal.decreases-loop-i
decreases-loop-i l = length l.out - l.i
