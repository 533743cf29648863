use Rattle.std.proofs.Common.{None, get_or, ℕ, ◌*◌, ◌+◌, ◌<◌, ◌≡◌}
use Rattle.bw_table.proofs.rows.read_integers.Given as goal

-- what is filled so far
abbrev pub invariant-loop-i : goal.invariant-loop-i
invariant-loop-i l = (i : ℕ) → i < l.i → get_or l.out i None ≡ get_or l.cells ((l.at + i) * l.width + l.k) None
