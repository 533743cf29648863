-- A condition with places for names says what the condition says.
use Rattle.std.proofs.Common.{◌≡◌, ◌∙◌, ◌+◌, ◌<◌, ◌≤◌, ℕ, ap, ap₂, drop, drop-cons, get_or, length, refl, suc, sym, take, arith, List, [], ◌∷◌, map, Option, Some, None}
use Rattle.std.specs.Prelude.{is_none}
use Rattle.std.proofs.lemmas.List.{take_all}
use Rattle.std.specs.Global.{Box, Vec}
use Rattle.bw_mask.specs.declared.truth_value.TruthValue.{TruthValue}
use Rattle.bw_sql.specs.declared.tree.Condition.{Condition}
use Rattle.bw_sql.specs.declared.tree.Condition.TheVariants as conditions
use Rattle.bw_sql.specs.declared.tree.Condition.TheOpen.{Condition-F}
use Rattle.bw_sql.specs.declared.tree.Condition.TheFolds.{fold-roll-Condition}
use Rattle.bw_plan.specs.declared.plan.RowCondition.{RowCondition}
use Rattle.bw_plan.specs.declared.plan.RowCondition.TheVariants as rows
use Rattle.bw_plan.specs.declared.plan.RowCondition.TheOpen.{RowCondition-F}
use Rattle.bw_plan.specs.declared.plan.RowCondition.TheFolds.{fold-roll-RowCondition}
use Rattle.bw_mask.specs.Truth.{and_of, is_of, not_of, or_of, truth_of_bool}
use Rattle.bw_model.specs.Condition.{compared, each_truth, is_one_of, some_truth, truth_at, truth_of_word, value_of}
use Rattle.bw_model.specs.Store.{Header, Row, place_of, value_from}
use Rattle.bw_sql.specs.Tree.{ConditionTree, ConditionTrees, among, between, comparison, each_of, more, negated, none, null, some_of, tested, condition_of, condition_step, trees_of}
use Rattle.bw_sql.specs.declared.tree.Operand.{Operand}
use Rattle.bw_sql.specs.declared.tree.Operand.TheVariants.{Column, Constant}
use Rattle.bw_plan.specs.Plans.{Plan, Plans, all_planned, each_by, plan_of, plan_step, planned, plans_of, some_by, source_at, source_of, truth_by, value_by}
use Rattle.bw_plan.specs.Plans as plan

by_place : (row : Row) (place : Option ℕ) → value_by (source_at place) row ≡ value_from row place
by_place row None = refl
by_place row (Some place) = refl

pub source_keeps : (headers : List Header) (row : Row) (x : Operand) → value_by (source_of headers x) row ≡ value_of headers row x
source_keeps headers row (Column name) = by_place row (place_of headers name)
source_keeps headers row (Constant value) = refl

mutual
  pub keeps_truth : (headers : List Header) (row : Row) (condition : ConditionTree) → truth_by (planned headers condition) row ≡ truth_at headers row condition
  keeps_truth headers row (each_of parts) = each_keeps headers row parts
  keeps_truth headers row (some_of parts) = some_keeps headers row parts
  keeps_truth headers row (negated part) = ap not_of (keeps_truth headers row part)
  keeps_truth headers row (tested part word) = ap (λ t. is_of t (truth_of_word word)) (keeps_truth headers row part)
  keeps_truth headers row (comparison x op y) = ap₂ (compared op) (source_keeps headers row x) (source_keeps headers row y)
  keeps_truth headers row (between x low high) =
      rw (source_keeps headers row x, source_keeps headers row low, source_keeps headers row high) refl
  keeps_truth headers row (among x entries) = ap (λ v. is_one_of v entries) (source_keeps headers row x)
  keeps_truth headers row (null x) = ap (λ v. truth_of_bool (is_none v)) (source_keeps headers row x)

  each_keeps : (headers : List Header) (row : Row) (parts : ConditionTrees) → each_by (all_planned headers parts) row ≡ each_truth headers row parts
  each_keeps headers row none = refl
  each_keeps headers row (more part parts) = ap₂ and_of (keeps_truth headers row part) (each_keeps headers row parts)

  some_keeps : (headers : List Header) (row : Row) (parts : ConditionTrees) → some_by (all_planned headers parts) row ≡ some_truth headers row parts
  some_keeps headers row none = refl
  some_keeps headers row (more part parts) = ap₂ or_of (keeps_truth headers row part) (some_keeps headers row parts)

-- the plans of some parts, and then of others
pub all_planned_parts : (headers : List Header) (parts : List ConditionTree) → all_planned headers (trees_of parts) ≡ plans_of (map (planned headers) parts)
all_planned_parts headers [] = refl
all_planned_parts headers (part ∷ parts) = ap (plan.more (planned headers part)) (all_planned_parts headers parts)

next : (n : ℕ) → suc n ≡ n + 1
next n = omega arith

-- a run as a Rust value, opened
pub opened_and : (parts : Vec Condition) → condition_of (conditions.And parts) ≡ each_of (trees_of (map condition_of parts.items))
opened_and parts = ap condition_of (sym (conditions.rolls-And parts)) ∙ fold-roll-Condition ConditionTree condition_step (Condition-F.And parts)

pub opened_or : (parts : Vec Condition) → condition_of (conditions.Or parts) ≡ some_of (trees_of (map condition_of parts.items))
opened_or parts = ap condition_of (sym (conditions.rolls-Or parts)) ∙ fold-roll-Condition ConditionTree condition_step (Condition-F.Or parts)

pub plan_and : (plans : Vec RowCondition) → plan_of (rows.And plans) ≡ plan.each_of (plans_of (map plan_of plans.items))
plan_and plans = ap plan_of (sym (rows.rolls-And plans)) ∙ fold-roll-RowCondition Plan plan_step (RowCondition-F.And plans)

pub plan_or : (plans : Vec RowCondition) → plan_of (rows.Or plans) ≡ plan.some_of (plans_of (map plan_of plans.items))
plan_or plans = ap plan_of (sym (rows.rolls-Or plans)) ∙ fold-roll-RowCondition Plan plan_step (RowCondition-F.Or plans)

-- the first of the parts that are left, and the others
pub each_split : (items : List RowCondition) (n : ℕ) (d part : RowCondition) (row : Row) → n < length items → part ≡ get_or items n d → each_by (plans_of (map plan_of (drop n items))) row ≡ and_of (truth_by (plan_of part) row) (each_by (plans_of (map plan_of (drop (n + 1) items))) row)
each_split items n d part row within is = rw is (ap (λ l. each_by (plans_of (map plan_of l)) row) (drop-cons items n d within ∙ ap (λ m. get_or items n d ∷ drop m items) (next n)))

pub some_split : (items : List RowCondition) (n : ℕ) (d part : RowCondition) (row : Row) → n < length items → part ≡ get_or items n d → some_by (plans_of (map plan_of (drop n items))) row ≡ or_of (truth_by (plan_of part) row) (some_by (plans_of (map plan_of (drop (n + 1) items))) row)
some_split items n d part row within is = rw is (ap (λ l. some_by (plans_of (map plan_of l)) row) (drop-cons items n d within ∙ ap (λ m. get_or items n d ∷ drop m items) (next n)))

-- the plans of all parts
pub plans_whole : (headers : List Header) (plans : List Plan) (parts items : List Condition) (n : ℕ) → plans ≡ map (planned headers) (map condition_of (take n items)) → items ≡ parts → length items ≤ n → plans_of plans ≡ all_planned headers (trees_of (map condition_of parts))
plans_whole headers plans parts items n so_far same over =
    ap plans_of (so_far ∙ ap (λ l. map (planned headers) (map condition_of l)) (take_all n items over ∙ same))
    ∙ sym (all_planned_parts headers (map condition_of parts))

pub plan_is : (part : Box RowCondition) (value : TruthValue) → plan_of (rows.Is part value) ≡ plan.tested (plan_of part.value) value
plan_is part value = ap plan_of (sym (rows.rolls-Is part value)) ∙ fold-roll-RowCondition Plan plan_step (RowCondition-F.Is part value)

pub plan_not : (part : Box RowCondition) → plan_of (rows.Not part) ≡ plan.negated (plan_of part.value)
plan_not part = ap plan_of (sym (rows.rolls-Not part)) ∙ fold-roll-RowCondition Plan plan_step (RowCondition-F.Not part)
