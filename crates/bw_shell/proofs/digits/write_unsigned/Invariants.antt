use Rattle.std.proofs.Common.{drop, length, ◌++◌, ◌+◌, ◌<◌, ◌≡◌, ◌≤◌}
use Rattle.std.specs.Fmt.{decimal}
use Rattle.bw_shell.proofs.digits.write_unsigned.Given as goal

-- the digits that are left and those that are written are the number's
abbrev pub invariant-loop-left : goal.invariant-loop-left
invariant-loop-left l = record {
  room : length (decimal l.left) < l.at;
  inside : l.at ≤ l.end;
  start : l.at + length (decimal l.n) ≡ l.end + length (decimal l.left);
  text : decimal l.left ++ drop l.at l.bytes ≡ decimal l.n ++ drop l.end l.fn.bytes;
}

abbrev pub decreases-loop-left : goal.decreases-loop-left
decreases-loop-left l = l.left
