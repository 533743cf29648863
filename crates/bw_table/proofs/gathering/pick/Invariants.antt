use Rattle.std.proofs.Common.{length, map, take, ◌≡◌, ◌≤◌}
use Rattle.std.specs.List.{filter, range_with_len}
use Rattle.bw_mask.specs.Masks.{bit_of}
use Rattle.bw_column.specs.Values.{value_at}
use Rattle.bw_table.proofs.gathering.pick.Given as goal

-- the values so far that are picked stand first
abbrev pub invariant-loop-i : goal.invariant-loop-i
invariant-loop-i l = record {
  few : l.count ≤ l.i;
  long : length l.out ≡ 64;
  front : take l.count l.out ≡ map (value_at l.run) (filter (bit_of l.rows) (range_with_len 0 l.i));
}
