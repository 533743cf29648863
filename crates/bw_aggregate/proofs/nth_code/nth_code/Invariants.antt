use Rattle.std.proofs.Common.{vec_len, ◌*◌, ◌+◌, ◌<◌, ◌^◌, ◌≡◌, ◌≤◌}
use Rattle.std.specs.List.{items_where_true}
use Rattle.bw_mask.specs.Masks.{len}
use Rattle.bw_code.specs.Columns.{count}
use Rattle.bw_aggregate.specs.Descents.{IsRest}
use Rattle.bw_aggregate.specs.Digits.{AreLeft}
use Rattle.bw_aggregate.proofs.nth_code.nth_code.Given as goal

abbrev pub invariant-digits : goal.invariant-digits
invariant-digits g l = record {
  long : vec_len l.counts ≡ 2048 + 64;
  below : l.way.below ≤ (g.C.CodeColumn.seen l.column).width;
  small : (l.way.found + 1) * 2 ^ l.way.below ≤ 2 ^ (g.C.CodeColumn.seen l.column).width;
  rest : IsRest (items_where_true l.rows.rows (g.C.CodeColumn.seen l.column).codes) l.nth l.way.below l.way.rest l.way.found;
  len : len l.left ≡ count (g.C.CodeColumn.seen l.column);
  left : 0 < l.way.below → AreLeft l.rows (g.C.CodeColumn.seen l.column).codes l.way.below l.way.found l.left;
}

abbrev pub decreases-digits : goal.decreases-digits
decreases-digits g l = l.way.below
