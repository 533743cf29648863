use Rattle.std.proofs.Common.{◌≡◌, ◌≤◌, ◌++◌, replicate, true}
use Rattle.bw_table.proofs.appending.push_live.Given as goal

abbrev pub invariant-loop-i : goal.invariant-loop-i
invariant-loop-i l = record {
  rows : l.live.rows ≡ l.fn.live.rows ++ replicate l._i true;
  room : l.fn.live.room ≤ l.live.room;
}
