use Rattle.std.proofs.Common.{◌+◌, ◌≡◌}
use Rattle.bw_lane.proofs.Joins.{AreJoined}
use Rattle.bw_horizontal.proofs.Pairs.{comparing}
use Rattle.bw_horizontal.proofs.pair.rows_comparing.Given as goal

-- the words so far
abbrev pub invariant-loop-i : goal.invariant-loop-i
invariant-loop-i g l = record {
  units : g.A.Source.units l.a ≡ g.A.Source.units l.fn.a;
  other_units : g.B.Source.units l.b ≡ g.B.Source.units l.fn.b;
  reads : g.A.Source.reads l.a ≡ g.A.Source.reads l.fn.a + l.i;
  other_reads : g.B.Source.reads l.b ≡ g.B.Source.reads l.fn.b + l.i;
  rows : AreJoined l.masks.width (comparing l.op l.masks.width (g.A.Source.units l.fn.a) (g.B.Source.units l.fn.b) l.q) l.i l.rows;
}
