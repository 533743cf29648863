use Rattle.std.proofs.Common.{length, ◌≡◌, ◌≤◌}
use Rattle.test_codes.proofs.plain_codes.column_of.Given as goal

abbrev pub invariant-loop-row : goal.invariant-loop-row
invariant-loop-row g l = record {
  width : (g.C.CodeColumn.seen l.column).width ≡ l.width;
  count : length (g.C.CodeColumn.seen l.column).codes ≡ l.row;
  room : l.rows ≤ (g.C.CodeColumn.seen l.column).room;
}
