use Rattle.std.proofs.Common.{drop, ◌≡◌}
use Rattle.bw_table.specs.Changes.{choice_of}
use Rattle.bw_table.proofs.choice.choice_of.Given as goal

-- no entry so far is for the column
abbrev pub invariant-loop-entry : goal.invariant-loop-entry
invariant-loop-entry l = choice_of l.choices l.k ≡ choice_of (drop l.entry-index l.choices) l.k
