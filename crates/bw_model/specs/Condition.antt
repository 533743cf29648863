-- The truth of a condition at a row (SQL-92, search condition and predicates).
use Rattle.std.specs.Prelude.{Bool, true, false, List, [], ◌∷◌, Option, Some, None, filter, is_none}
use Rattle.std.specs.Ordering.{int_cmp}
use Rattle.std.specs.declared.cmp.Ordering.{Ordering}
use Rattle.std.specs.declared.cmp.Ordering.TheVariants.{Less, Equal, Greater}
use Rattle.bw_mask.specs.Truth.{and_of, is_of, is_value, not_of, or_of, truth_of_bool}
use Rattle.bw_mask.specs.declared.truth_value.TruthValue.{TruthValue}
use Rattle.bw_mask.specs.declared.truth_value.TruthValue.TheVariants.{True, False, Unknown}
use Rattle.bw_lex.specs.declared.token.CompareOp.{CompareOp}
use Rattle.bw_lex.specs.declared.token.CompareOp.TheVariants.{Eq, Ne, Lt, Le, Gt, Ge}
use Rattle.bw_sql.specs.Tree.{ConditionTree, ConditionTrees, among, between, comparison, each_of, more, negated, none, null, some_of, tested}
use Rattle.bw_sql.specs.declared.tree.Operand.{Operand}
use Rattle.bw_sql.specs.declared.tree.Operand.TheVariants.{Column, Constant}
use Rattle.bw_sql.specs.declared.tree.TruthWord.{TruthWord}
use Rattle.bw_sql.specs.declared.tree.TruthWord.TheVariants as word
use Rattle.bw_model.specs.Store.{Header, Row, Table, Value, place_of, value_from}

-- whether numbers in this order satisfy the comparison
abbrev pub order_meets : CompareOp → Ordering → Bool
order_meets Eq Equal = true
order_meets Eq _ = false
order_meets Ne Equal = false
order_meets Ne _ = true
order_meets Lt Less = true
order_meets Lt _ = false
order_meets Le Greater = false
order_meets Le _ = true
order_meets Gt Greater = true
order_meets Gt _ = false
order_meets Ge Less = false
order_meets Ge _ = true

-- a comparison with null on either side is unknown
abbrev pub compared : CompareOp → Value → Value → TruthValue
compared op None right = Unknown
compared op (Some left) None = Unknown
compared op (Some left) (Some right) = truth_of_bool (order_meets op (int_cmp left right))

abbrev pub value_of : List Header → Row → Operand → Value
value_of headers row (Column name) = value_from row (place_of headers name)
value_of headers row (Constant value) = value

-- the truth value that a keyword stands for
abbrev pub truth_of_word : TruthWord → TruthValue
truth_of_word word.True = True
truth_of_word word.False = False
truth_of_word word.Unknown = Unknown

-- x BETWEEN low AND high is x >= low AND x <= high
abbrev pub lies_between : Value → Value → Value → TruthValue
lies_between x low high = and_of (compared Ge x low) (compared Le x high)

-- x IN (a, b) is x = a OR x = b
abbrev pub is_one_of : Value → List Value → TruthValue
is_one_of x [] = False
is_one_of x (entry ∷ entries) = or_of (compared Eq x entry) (is_one_of x entries)

abbrev mutual
  pub truth_at : List Header → Row → ConditionTree → TruthValue
  truth_at headers row (each_of parts) = each_truth headers row parts
  truth_at headers row (some_of parts) = some_truth headers row parts
  truth_at headers row (negated part) = not_of (truth_at headers row part)
  truth_at headers row (tested part truth) = is_of (truth_at headers row part) (truth_of_word truth)
  truth_at headers row (comparison x op y) = compared op (value_of headers row x) (value_of headers row y)
  truth_at headers row (between x low high) = lies_between (value_of headers row x) (value_of headers row low) (value_of headers row high)
  truth_at headers row (among x entries) = is_one_of (value_of headers row x) entries
  truth_at headers row (null x) = truth_of_bool (is_none (value_of headers row x))

  -- AND over all parts
  pub each_truth : List Header → Row → ConditionTrees → TruthValue
  each_truth headers row none = True
  each_truth headers row (more part parts) = and_of (truth_at headers row part) (each_truth headers row parts)

  -- OR over all parts
  pub some_truth : List Header → Row → ConditionTrees → TruthValue
  some_truth headers row none = False
  some_truth headers row (more part parts) = or_of (truth_at headers row part) (some_truth headers row parts)

-- every row is found where there is no condition
abbrev pub is_found : List Header → Option ConditionTree → Row → Bool
is_found headers None row = true
is_found headers (Some condition) row = is_value (truth_at headers row condition) True

abbrev pub found_rows : Table → Option ConditionTree → List Row
found_rows table condition = filter (is_found table.headers condition) table.rows
