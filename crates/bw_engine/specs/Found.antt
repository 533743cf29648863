-- Which rows of a table are found.
use Rattle.std.specs.Prelude.{ℕ, suc, Bool, true, List, [], ◌∷◌, Option, Some, None, if◌then◌else◌}
use Rattle.bw_mask.specs.Truth.{is_value}
use Rattle.bw_mask.specs.declared.truth_value.TruthValue.TheVariants.{True}
use Rattle.bw_model.specs.Store.{Row}
use Rattle.bw_plan.specs.Plans.{Plan, truth_by}

-- the rows whose indexes pass
abbrev pub rows_where : {A : Type 0} → (ℕ → Bool) → List A → List A
rows_where test [] = []
rows_where test (row ∷ rows) = if test 0 then row ∷ rows_where (λ i. test (suc i)) rows else rows_where (λ i. test (suc i)) rows

-- whether a plan finds a row; without a plan, every row is found
abbrev pub is_found_by : Option Plan → Row → Bool
is_found_by None row = true
is_found_by (Some plan) row = is_value (truth_by plan row) True
