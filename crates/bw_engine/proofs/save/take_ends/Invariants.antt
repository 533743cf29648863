use Rattle.std.proofs.Common.{None, get_or, length, ℕ, ◌<◌, ◌≡◌}
use Rattle.bw_file.specs.Format.{AreEndsOf}
use Rattle.bw_model.specs.Filing.{column_of}
use Rattle.bw_engine.specs.Stores.{rows_in}
use Rattle.bw_engine.proofs.save.take_ends.Given as goal

-- the ends of the columns so far are in their places
abbrev pub invariant-loop-k : goal.invariant-loop-k
invariant-loop-k l = record {
  len : length l.ends ≡ length l.fn.ends;
  each : (i : ℕ) → i < l.k → AreEndsOf (get_or l.ends i None) (column_of (rows_in l.table.slots) i);
}
