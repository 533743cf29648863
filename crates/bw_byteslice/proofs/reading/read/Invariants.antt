use Rattle.std.proofs.Common.{get_or, length, ℕ, ◌+◌, ◌-◌, ◌<◌, ◌≡◌, ◌≤◌}
use Rattle.bw_byteslice.specs.Storing.{bytes_of, code_of}
use Rattle.bw_byteslice.proofs.reading.read.Given as goal

-- the codes so far
abbrev pub invariant-runs : goal.invariant-runs
invariant-runs l = record {
  some : l.done ≤ length l.out;
  len : length l.out ≡ length l.fn.out;
  codes : (r : ℕ) → r < l.done → get_or l.out r 0 ≡ code_of l.width (bytes_of l.slices) (l.at + r);
}

abbrev pub decreases-runs : goal.decreases-runs
decreases-runs l = length l.out - l.done
