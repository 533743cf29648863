use Rattle.std.proofs.Common.{map, vec_len, ◌≡◌}
use Rattle.bw_table.specs.Opening.{AreOpenedBelow}
use Rattle.bw_table.proofs.opening.columns_of.Given as goal

-- for each column of cells so far its column
abbrev pub invariant-loop-k : goal.invariant-loop-k
invariant-loop-k g l = record {
  count : vec_len l.opened ≡ l.k;
  each : AreOpenedBelow l.k l.headers.items (map g.C.Cells.cells l.columns) l.opened.items;
}
