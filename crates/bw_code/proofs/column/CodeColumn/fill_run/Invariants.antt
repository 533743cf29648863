use Rattle.std.proofs.Common.{if◌then◌else◌, ℕ, ◌+◌, ◌<◌, ◌≡◌, ◌≤◌}
use Rattle.bw_code.specs.Columns.{code_at, count, is_chosen, KeepsShape}
use Rattle.bw_code.proofs.column.CodeColumn.fill_run.Given as goal

-- the rows before this one are done, and the others are as they were
abbrev pub invariant-loop-i : goal.invariant-loop-i
invariant-loop-i g l = record {
  shape : KeepsShape (g.Self.CodeColumn.seen l.self) (g.Self.CodeColumn.seen l.fn.self);
  long : count (g.Self.CodeColumn.seen l.self) ≡ count (g.Self.CodeColumn.seen l.fn.self);
  done : (j : ℕ) → j < l.at + l.i → code_at (g.Self.CodeColumn.seen l.self) j ≡ (if is_chosen l.at l.rows j then l.code else code_at (g.Self.CodeColumn.seen l.fn.self) j);
  left : (j : ℕ) → l.at + l.i ≤ j → code_at (g.Self.CodeColumn.seen l.self) j ≡ code_at (g.Self.CodeColumn.seen l.fn.self) j;
}
