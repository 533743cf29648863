use Rattle.std.proofs.Common.{◌≡◌, drop, map}
use Rattle.bw_model.specs.Refusals.{names_missing, some_names_missing}
use Rattle.bw_sql.specs.Tree.{condition_of, trees_of}
use Rattle.bw_model.proofs.refusal_tests.+names_missing.Given as goal

-- the parts before this one name no missing column
abbrev pub invariant-loop-part : goal.invariant-loop-part
invariant-loop-part l = some_names_missing l.headers (trees_of (map condition_of (drop l.part-index l.part-items))) ≡ names_missing l.headers (condition_of l.condition)
