use Rattle.std.proofs.Common.{◌≡◌, ◌++◌, drop, length, sum}
use Rattle.bw_sql.specs.Rows.{rows_of}
use Rattle.bw_model.proofs.insert.rows_of.Given as goal

abbrev pub invariant-loop-width : goal.invariant-loop-width
invariant-loop-width l = record {
  fits : sum (drop l.width-index l.width-items) ≡ length l.rest;
  rows : l.list.items ++ rows_of (drop l.width-index l.width-items) l.rest ≡ l.rows;
}
