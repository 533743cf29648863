use Rattle.std.proofs.Common.{◌/◌, ◌^◌, ◌≡◌, ◌≤◌}
use Rattle.bw_code.specs.Units.{agreement}
use Rattle.test_codes.proofs.units.agreement.Given as goal

abbrev pub invariant-loop-i : goal.invariant-loop-i
invariant-loop-i l = record {
  x : l.x_rest ≡ l.x / l.base ^ l.i;
  y : l.y_rest ≡ l.y / l.base ^ l.i;
  agreed : l.agreed ≡ agreement l.base l.i l.x l.y;
  most : l.agreed ≤ l.i;
}
