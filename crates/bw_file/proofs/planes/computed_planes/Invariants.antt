use Rattle.std.proofs.Common.{None, [], drop, get_or, is_some, length, map, take, ℕ, ◌*◌, ◌<◌, ◌≡◌}
use Rattle.bw_mask.specs.Masks.{bit_of, row_in}
use Rattle.bw_cells.specs.Distances.{distance_from}
use Rattle.bw_file.proofs.planes.computed_planes.Given as goal

-- the words so far
abbrev pub invariant-loop-j : goal.invariant-loop-j
invariant-loop-j g l = record {
  room : length l.list ≡ 64;
  long : length l.present ≡ 32;
  planes : (b r : ℕ) → b < l.k → r < 64 * l.j → row_in (get_or l.block b []) r ≡ bit_of (get_or (map (distance_from l.base) (take l.count (drop l.at (g.C.Cells.cells l.column)))) r 0) b;
  told : (i : ℕ) → i < 64 * l.j → row_in l.present i ≡ is_some (get_or (take l.count (drop l.at (g.C.Cells.cells l.column))) i None);
}
