use Rattle.std.proofs.Common.{length, take, ◌≡◌}
use Rattle.std.specs.Prelude.{vec_capacity}
use Rattle.bw_rank.proofs.widths.widened.Given as goal

abbrev pub invariant-numbers : goal.invariant-numbers
invariant-numbers l = record {
  room : vec_capacity l.wide ≡ length l.numbers;
  items : l.wide.items ≡ take l.i l.numbers;
}
