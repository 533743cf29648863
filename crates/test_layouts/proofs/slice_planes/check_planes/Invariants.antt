use Rattle.std.proofs.Common.{◌≡◌}
use Rattle.test_layouts.proofs.slice_planes.check_planes.Given as goal

abbrev pub invariant-loop-unit : goal.invariant-loop-unit
invariant-loop-unit g l = record {
  units : l.planes.units ≡ l.initial.planes.units;
  reads : l.planes.reads ≡ l.unit;
}
