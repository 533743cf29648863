use Rattle.std.proofs.Common.{if◌then◌else◌, ℕ, ◌-◌, ◌<◌, ◌%◌, ◌≡◌, ◌≤◌, ◌⊎◌}
use Rattle.bw_mask.specs.Masks.{row_at}
use Rattle.bw_code.specs.Columns.{code_at, count, KeepsShape}
use Rattle.bw_code.proofs.column.CodeColumn.fill_rows.Given as goal

-- the rows before this one are done, and the others are as they were
abbrev pub invariant-loop-at : goal.invariant-loop-at
invariant-loop-at g l = record {
  shape : KeepsShape (g.Self.CodeColumn.seen l.self) (g.Self.CodeColumn.seen l.fn.self);
  long : count (g.Self.CodeColumn.seen l.self) ≡ count (g.Self.CodeColumn.seen l.fn.self);
  word : (l.at % 64 ≡ 0) ⊎ (count (g.Self.CodeColumn.seen l.fn.self) ≤ l.at);
  at : l.at ≤ count (g.Self.CodeColumn.seen l.fn.self);
  done : (j : ℕ) → j < l.at → code_at (g.Self.CodeColumn.seen l.self) j ≡ (if row_at l.rows j then l.code else code_at (g.Self.CodeColumn.seen l.fn.self) j);
  left : (j : ℕ) → l.at ≤ j → j < count (g.Self.CodeColumn.seen l.fn.self) → code_at (g.Self.CodeColumn.seen l.self) j ≡ code_at (g.Self.CodeColumn.seen l.fn.self) j;
}

abbrev pub decreases-loop-at : goal.decreases-loop-at
decreases-loop-at g l = count (g.Self.CodeColumn.seen l.fn.self) - l.at
