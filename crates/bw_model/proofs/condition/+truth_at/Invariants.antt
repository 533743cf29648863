use Rattle.std.proofs.Common.{◌≡◌, drop, map}
use Rattle.bw_mask.specs.Truth.{and_of, or_of}
use Rattle.bw_model.specs.Condition.{each_truth, some_truth, truth_at}
use Rattle.bw_sql.specs.Tree.{condition_of, trees_of}
use Rattle.bw_model.proofs.condition.+truth_at.Given as goal

-- the parts so far and those that are left give the truth of the whole
abbrev pub invariant-loop-part : goal.invariant-loop-part
invariant-loop-part l = and_of l.all (each_truth l.headers l.row (trees_of (map condition_of (drop l.part-index l.part-items)))) ≡ truth_at l.headers l.row (condition_of l.condition)

abbrev pub invariant-loop-part-2 : goal.invariant-loop-part-2
invariant-loop-part-2 l = or_of l.some (some_truth l.headers l.row (trees_of (map condition_of (drop l.part-index l.part-items)))) ≡ truth_at l.headers l.row (condition_of l.condition)
