use Rattle.std.proofs.Common.{ℕ, ◌&&◌, ◌*◌, ◌+◌, ◌<◌, ◌≡◌, ◌≤◌}
use Rattle.bw_mask.specs.Masks.{row_at, SameShape}
use Rattle.bw_code.specs.Tests.{meets}
use Rattle.bw_code.specs.Units.{by_planes, scan_units}
use Rattle.bw_vertical.specs.Planes.{code_in}
use Rattle.bw_vertical.proofs.scan.scan_from.Given as goal

-- the segments so far
abbrev pub invariant-loop-q : goal.invariant-loop-q
invariant-loop-q g l = record {
  units : g.S.Source.units l.source ≡ g.S.Source.units l.fn.source;
  reads : g.S.Source.reads l.source ≡ g.S.Source.reads l.fn.source + scan_units (by_planes l.width) l.test (row_at l.need) (code_in l.width (g.S.Source.units l.fn.source)) l.q;
  most : g.S.Source.reads l.source ≤ g.S.Source.reads l.fn.source + 64 * l.q;
  shape : SameShape l.out l.fn.out;
  rows : (j : ℕ) → j < 256 * l.q → row_at l.out j ≡ (row_at l.need j && meets l.test (code_in l.width (g.S.Source.units l.fn.source) j));
}
