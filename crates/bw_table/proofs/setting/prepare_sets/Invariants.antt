use Rattle.std.proofs.Common.{◌≡◌, vec_len}
use Rattle.bw_table.specs.Halves.{AllKept}
use Rattle.bw_table.specs.Sets.{AreReadyFor}
use Rattle.bw_table.proofs.setting.prepare_sets.Given as goal

-- the sets so far are ready
abbrev pub invariant-loop-n : goal.invariant-loop-n
invariant-loop-n l = record {
  kept : AllKept l.columns.items l.fn.columns.items;
  count : vec_len l.changes ≡ l.n;
  ready : AreReadyFor l.columns.items l.found l.sets l.changes.items;
}
