use Rattle.std.proofs.Common.{◌≡◌, drop, map}
use Rattle.bw_model.specs.Refusals.{has_long_list, some_has_long_list}
use Rattle.bw_sql.specs.Tree.{condition_of, trees_of}
use Rattle.bw_model.proofs.refusal_tests.+has_long_list.Given as goal

-- the parts before this one have no list that is too long
abbrev pub invariant-loop-part : goal.invariant-loop-part
invariant-loop-part l = some_has_long_list (trees_of (map condition_of (drop l.part-index l.part-items))) ≡ has_long_list (condition_of l.condition)
