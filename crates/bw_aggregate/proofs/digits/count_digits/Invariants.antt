use Rattle.std.proofs.Common.{get_or, length, min, ℕ, ◌*◌, ◌+◌, ◌<◌, ◌≡◌, ◌≤◌}
use Rattle.bw_code.specs.Columns.{count}
use Rattle.bw_aggregate.specs.Digits.{front_count}
use Rattle.bw_aggregate.proofs.digits.count_digits.Given as goal

abbrev pub invariant-runs : goal.invariant-runs
invariant-runs g l = record {
  long : length l.counts ≡ l.digits.many + 64;
  small : (k : ℕ) → get_or l.counts k 0 ≤ min (64 * l.q) (count (g.C.CodeColumn.seen l.column));
  counted : (d : ℕ) → d < l.digits.many → get_or l.counts d 0 ≡ front_count l.rows.rows (g.C.CodeColumn.seen l.column).codes (min (64 * l.q) (count (g.C.CodeColumn.seen l.column))) l.digits.below (l.digits.first + d);
}
