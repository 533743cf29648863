use Rattle.std.proofs.Common.{None, [], get_or, length, map, ℕ, ◌<◌, ◌≡◌}
use Rattle.bw_file.specs.Format.{AreEndsOf}
use Rattle.bw_file.proofs.columns.take_ends.Given as goal

-- the ends of the columns so far are in their places
abbrev pub invariant-columns : goal.invariant-columns
invariant-columns g l = record {
  len : length l.ends ≡ length l.columns;
  each : (k : ℕ) → k < l.i → AreEndsOf (get_or l.ends k None) (get_or (map g.C.Cells.cells l.columns) k []);
}
