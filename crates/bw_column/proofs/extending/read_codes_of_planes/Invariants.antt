use Rattle.std.proofs.Common.{get_or, length, ℕ, ◌*◌, ◌<◌, ◌≡◌, ◌≤◌}
use Rattle.bw_vertical.specs.Planes.{code_by_planes}
use Rattle.bw_column.proofs.extending.read_codes_of_planes.Given as goal

-- the codes so far
abbrev pub invariant-loop-j : goal.invariant-loop-j
invariant-loop-j l = record {
  len : length l.out ≡ length l.fn.out;
  rest : (b : ℕ) → l.k ≤ b → get_or l.words b 0 ≡ 0;
  codes : (r : ℕ) → r < 64 * l.j → r < length l.out → get_or l.out r 0 ≡ code_by_planes l.k l.block r;
}
