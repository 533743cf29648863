-- The state of a descent between planes.
use Rattle.std.specs.Prelude.{List, ℕ, ◌≡◌}
use Rattle.bw_aggregate.specs.Descents.{LeadsTo, begin_count}
use Rattle.bw_aggregate.specs.declared.descent.Descent.{Descent}

-- with i planes to go, the descent leads to entry n of the codes
pub record IsDescent (codes held : List ℕ) (n i : ℕ) (descent : Descent) : Type 0 where
  pub leads : LeadsTo codes held n i descent.left descent.nth descent.code
  pub count : descent.count ≡ begin_count held i descent.code
