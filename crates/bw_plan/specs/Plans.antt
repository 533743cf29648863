-- Conditions with columns given by index, and their truth at a row (SQL-92, search condition and predicates).
use Rattle.std.specs.Prelude.{ℕ, List, [], ◌∷◌, Option, Some, None, is_none}
use Rattle.bw_mask.specs.Truth.{and_of, is_of, not_of, or_of, truth_of_bool}
use Rattle.bw_mask.specs.declared.truth_value.TruthValue.{TruthValue}
use Rattle.bw_mask.specs.declared.truth_value.TruthValue.TheVariants.{Unknown}
use Rattle.bw_mask.specs.declared.truth_value.TruthValue.TheVariants as value
use Rattle.bw_model.specs.Condition.{compared, is_one_of, lies_between, truth_of_word}
use Rattle.bw_model.specs.Store.{Header, Row, Value, place_of, value_at}
use Rattle.bw_lex.specs.declared.token.CompareOp.{CompareOp}
use Rattle.bw_sql.specs.Tree.{ConditionTree, ConditionTrees}
use Rattle.bw_sql.specs.Tree as tree
use Rattle.bw_sql.specs.declared.tree.Operand.{Operand}
use Rattle.bw_sql.specs.declared.tree.Operand.TheVariants as operand
use Rattle.bw_plan.specs.declared.plan.Predicate.{Predicate}
use Rattle.bw_plan.specs.declared.plan.Predicate.TheVariants as predicate
use Rattle.bw_plan.specs.declared.plan.RowCondition.{RowCondition}
use Rattle.bw_plan.specs.declared.plan.RowCondition.TheOpen.{RowCondition-F}
use Rattle.bw_plan.specs.declared.plan.RowCondition.TheFolds.{fold-RowCondition}
use Rattle.bw_plan.specs.declared.plan.Source.{Source}
use Rattle.bw_plan.specs.declared.plan.Source.TheVariants.{Place, Constant}

mutual
  pub data Plan : Type 0 where
    each_of : Plans → Plan
    some_of : Plans → Plan
    negated : Plan → Plan
    tested : Plan → TruthValue → Plan
    comparison : Source → CompareOp → Source → Plan
    between : Source → (low : Source) → (high : Source) → Plan
    among : Source → List Value → Plan
    null : Source → Plan

  pub data Plans : Type 0 where
    none : Plans
    more : Plan → Plans → Plans

abbrev pub plans_of : List Plan → Plans
plans_of [] = none
plans_of (p ∷ ps) = more p (plans_of ps)

-- the value of a source in a row
abbrev pub value_by : Source → Row → Value
value_by (Place place) row = value_at row place
value_by (Constant value) row = value

abbrev mutual
  pub truth_by : Plan → Row → TruthValue
  truth_by (each_of parts) row = each_by parts row
  truth_by (some_of parts) row = some_by parts row
  truth_by (negated part) row = not_of (truth_by part row)
  truth_by (tested part truth) row = is_of (truth_by part row) truth
  truth_by (comparison x op y) row = compared op (value_by x row) (value_by y row)
  truth_by (between x low high) row = lies_between (value_by x row) (value_by low row) (value_by high row)
  truth_by (among x entries) row = is_one_of (value_by x row) entries
  truth_by (null x) row = truth_of_bool (is_none (value_by x row))

  pub each_by : Plans → Row → TruthValue
  each_by none row = value.True
  each_by (more part parts) row = and_of (truth_by part row) (each_by parts row)

  pub some_by : Plans → Row → TruthValue
  some_by none row = value.False
  some_by (more part parts) row = or_of (truth_by part row) (some_by parts row)

-- the source for a column's index; a column that doesn't exist is always null
abbrev pub source_at : Option ℕ → Source
source_at None = Constant None
source_at (Some place) = Place place

abbrev pub source_of : List Header → Operand → Source
source_of headers (operand.Column name) = source_at (place_of headers name)
source_of headers (operand.Constant value) = Constant value

-- a condition with each column name replaced by its index
abbrev mutual
  pub planned : List Header → ConditionTree → Plan
  planned headers (tree.each_of parts) = each_of (all_planned headers parts)
  planned headers (tree.some_of parts) = some_of (all_planned headers parts)
  planned headers (tree.negated part) = negated (planned headers part)
  planned headers (tree.tested part word) = tested (planned headers part) (truth_of_word word)
  planned headers (tree.comparison x op y) = comparison (source_of headers x) op (source_of headers y)
  planned headers (tree.between x low high) = between (source_of headers x) (source_of headers low) (source_of headers high)
  planned headers (tree.among x entries) = among (source_of headers x) entries
  planned headers (tree.null x) = null (source_of headers x)

  pub all_planned : List Header → ConditionTrees → Plans
  all_planned headers tree.none = none
  all_planned headers (tree.more part parts) = more (planned headers part) (all_planned headers parts)

-- the plan that a Rust value holds
abbrev pub predicate_of : Predicate → Plan
predicate_of (predicate.Compare x op y) = comparison x op y
predicate_of (predicate.Between x low high) = between x low high
predicate_of (predicate.In x entries) = among x entries.items
predicate_of (predicate.IsNull x) = null x

abbrev pub plan_step : RowCondition-F Plan → Plan
plan_step (RowCondition-F.And parts) = each_of (plans_of parts.items)
plan_step (RowCondition-F.Or parts) = some_of (plans_of parts.items)
plan_step (RowCondition-F.Not part) = negated part.value
plan_step (RowCondition-F.Is part truth) = tested part.value truth
plan_step (RowCondition-F.Test test) = predicate_of test

abbrev pub plan_of : RowCondition → Plan
plan_of = fold-RowCondition Plan plan_step
