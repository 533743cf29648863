use Rattle.std.proofs.Common.{length, ◌++◌, ◌≡◌}
use Rattle.bw_code.specs.Columns.{Fit, KeepsShape}
use Rattle.bw_vertical.proofs.column.VerticalColumnCodeColumn.extend.Given as goal

-- the codes so far, and the rest after them
abbrev pub invariant-parts : goal.invariant-parts
invariant-parts l = record {
  codes : l.self.codes ++ l.rest ≡ l.fn.self.codes ++ l.codes;
  fit : Fit l.fn.self.width l.rest;
  shape : KeepsShape l.self l.fn.self;
}

abbrev pub decreases-parts : goal.decreases-parts
decreases-parts l = length l.rest
