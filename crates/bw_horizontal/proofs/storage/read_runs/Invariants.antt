use Rattle.std.proofs.Common.{get_or, length, ℕ, ◌+◌, ◌-◌, ◌<◌, ◌≡◌, ◌≤◌}
use Rattle.bw_horizontal.specs.Words.{code_in}
use Rattle.bw_horizontal.proofs.storage.read_runs.Given as goal

-- the codes so far
abbrev pub invariant-runs : goal.invariant-runs
invariant-runs l = record {
  some : l.done ≤ length l.out;
  len : length l.out ≡ length l.fn.out;
  width : l.place.masks.width ≡ l.width;
  row : l.place.row ≡ l.at + l.done;
  codes : (i : ℕ) → i < l.done → get_or l.out i 0 ≡ code_in l.width l.words (l.at + i);
}

abbrev pub decreases-runs : goal.decreases-runs
decreases-runs l = length l.out - l.done
