-- Several set functions of values, computed in one pass over their codes.
use Rattle.std.specs.Prelude.{List, None, if◌then◌else◌, length, ℤ, ◌≡◌}
use Rattle.bw_cells.specs.SetFunctions.{greatest, least, median, sum}
use Rattle.bw_aggregate.specs.declared.summary.Asked.{Asked}
use Rattle.bw_aggregate.specs.declared.summary.Summary.{Summary}

-- the number of values, and what was asked for; the rest is `None`
pub record IsSummary (asked : Asked) (values : List ℤ) (summary : Summary) : Type 0 where
  pub count : summary.count ≡ length values
  pub sum : summary.sum ≡ (if asked.sum then sum values else None)
  pub least : summary.least ≡ (if asked.least then least values else None)
  pub greatest : summary.greatest ≡ (if asked.greatest then greatest values else None)
  pub median : summary.median ≡ (if asked.median then median values else None)
