use Rattle.std.proofs.Common.{length, ℕ, ◌*◌, ◌+◌, ◌<◌, ◌≡◌}
use Rattle.bw_column.specs.Values.{value_at}
use Rattle.bw_column.proofs.column.Column.read.Given as goal

abbrev pub invariant-loop-q : goal.invariant-loop-q
invariant-loop-q l = (k : ℕ) → k < 64 * l.q → k < length l.out → value_at l.out k ≡ value_at l.self.values (l.at + k)
