use Rattle.std.proofs.Common.{ℕ, ◌&&◌, ◌*◌, ◌+◌, ◌<◌, ◌≡◌, ◌≤◌}
use Rattle.bw_mask.specs.Masks.{row_at, SameShape}
use Rattle.bw_code.specs.Tests.{code_compares}
use Rattle.bw_code.specs.Units.{by_planes, side_units}
use Rattle.bw_vertical.specs.Planes.{code_in}
use Rattle.bw_vertical.proofs.pair.pair_from.Given as goal

-- the segments so far
abbrev pub invariant-loop-q : goal.invariant-loop-q
invariant-loop-q g l = record {
  units : g.A.Source.units l.a ≡ g.A.Source.units l.fn.a;
  other_units : g.B.Source.units l.b ≡ g.B.Source.units l.fn.b;
  reads : g.A.Source.reads l.a ≡ g.A.Source.reads l.fn.a + side_units (by_planes l.width) (row_at l.need) (code_in l.width (g.A.Source.units l.fn.a)) (code_in l.width (g.B.Source.units l.fn.b)) l.q;
  other_reads : g.B.Source.reads l.b ≡ g.B.Source.reads l.fn.b + side_units (by_planes l.width) (row_at l.need) (code_in l.width (g.A.Source.units l.fn.a)) (code_in l.width (g.B.Source.units l.fn.b)) l.q;
  most : g.A.Source.reads l.a ≤ g.A.Source.reads l.fn.a + 64 * l.q;
  other_most : g.B.Source.reads l.b ≤ g.B.Source.reads l.fn.b + 64 * l.q;
  shape : SameShape l.out l.fn.out;
  rows : (j : ℕ) → j < 256 * l.q → row_at l.out j ≡ (row_at l.need j && code_compares l.op (code_in l.width (g.A.Source.units l.fn.a) j) (code_in l.width (g.B.Source.units l.fn.b) j));
}
