use Rattle.std.proofs.Common.{get_or, length, ℕ, ◌<◌, ◌≡◌}
use Rattle.bw_code.specs.Types.{types_of}
use Rattle.bw_code.specs.declared.kind.ColumnType.TheVariants.{Integer}
use Rattle.bw_engine.proofs.load.take_types.Given as goal

-- the types of the columns so far are in their places
abbrev pub invariant-loop-k : goal.invariant-loop-k
invariant-loop-k l = record {
  len : length l.types ≡ length l.fn.types;
  each : (i : ℕ) → i < l.k → get_or l.types i Integer ≡ get_or (types_of l.headers) i Integer;
}
