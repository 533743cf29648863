use Rattle.std.proofs.Common.{◌≡◌, vec_len}
use Rattle.bw_table.specs.Halves.{AllKept, AreReadyBelow}
use Rattle.bw_table.proofs.appending.prepare.Given as goal

-- the columns below k are ready
abbrev pub invariant-loop-k : goal.invariant-loop-k
invariant-loop-k l = record {
  kept : AllKept l.columns.items l.fn.columns.items;
  count : vec_len l.prepared ≡ l.k;
  ready : AreReadyBelow l.k l.rows l.columns.items l.prepared.items;
}
