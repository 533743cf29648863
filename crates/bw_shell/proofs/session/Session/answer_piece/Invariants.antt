use Rattle.std.proofs.Common.{◌≡◌, ◌≤◌, ◌+◌, List, ℕ, length}
use Rattle.bw_split.specs.Splitters.{Begun}
use Rattle.bw_shell.specs.States.{seen, with_tables}
use Rattle.bw_shell.proofs.PieceByPiece.{CameTo}
use Rattle.bw_shell.proofs.session.Session.answer_piece.Given as goal

abbrev pub invariant-loop-taken : goal.invariant-loop-taken
invariant-loop-taken g l = record {
  going : (part : List ℕ) → Begun l.fn.self.splitter part → (next : List ℕ) × (Begun l.self.splitter next × CameTo l.fn.self.on_error part l.piece (with_tables l.fn.self.engine (seen (g.F.Folder.files l.fn.folder) (g.F.Folder.failure_count l.fn.folder))) (g.W.Write.contents l.fn.writer) (g.W.Write.contents l.writer) l.rest next (with_tables l.self.engine (seen (g.F.Folder.files l.folder) (g.F.Folder.failure_count l.folder))));
  stage : l.self.splitter.stage ≡ l.fn.self.splitter.stage;
  on_error : l.self.on_error ≡ l.fn.self.on_error;
  few : g.F.Folder.failure_count l.folder + length l.rest ≤ g.F.Folder.failure_count l.fn.folder + length l.piece;
}

abbrev pub decreases-loop-taken : goal.decreases-loop-taken
decreases-loop-taken g l = length l.rest
