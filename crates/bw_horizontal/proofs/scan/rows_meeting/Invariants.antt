use Rattle.std.proofs.Common.{Bool, ℕ, ◌+◌, ◌≡◌}
use Rattle.bw_lane.specs.Sections.{IsStored}
use Rattle.bw_lane.proofs.Joins.{AreJoined}
use Rattle.bw_horizontal.specs.Words.{AreDelimiters}
use Rattle.bw_horizontal.proofs.Marks.{passing}
use Rattle.bw_horizontal.proofs.scan.rows_meeting.Given as goal

-- the words so far
abbrev pub invariant-loop-i : goal.invariant-loop-i
invariant-loop-i g l = record {
  units : g.S.Source.units l.source ≡ g.S.Source.units l.fn.source;
  reads : g.S.Source.reads l.source ≡ g.S.Source.reads l.fn.source + l.i;
  rows : (passes : ℕ → Bool) → ((word : ℕ) → IsStored l.width word → AreDelimiters l.width passes word (g.T.WordTest.marked l.test word)) → AreJoined l.width (passing l.width passes (g.S.Source.units l.fn.source) l.q) l.i l.rows;
}
