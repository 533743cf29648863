use Rattle.std.proofs.Common.{◌≡◌, ◌<◌, ◌≤◌, ◌+◌, List, ℕ, length}
use Rattle.bw_split.specs.Splitters.{Begun}
use Rattle.bw_shell.specs.Script.{longest_script}
use Rattle.bw_shell.specs.States.{seen, with_tables}
use Rattle.bw_shell.proofs.Scripts.{SoFar}
use Rattle.bw_shell.proofs.running.answer_script.Given as goal

abbrev pub invariant-loop-n : goal.invariant-loop-n
invariant-loop-n g l = record {
  part : (part : List ℕ) × (Begun l.session.splitter part × SoFar l.fn.session.on_error (g.R.Read.remaining l.fn.reader) (g.W.Write.contents l.fn.writer) (seen (g.F.Folder.files l.fn.folder) (g.F.Folder.failure_count l.fn.folder)) (g.R.Read.remaining l.reader) (g.W.Write.contents l.writer) l.left part (with_tables l.session.engine (seen (g.F.Folder.files l.folder) (g.F.Folder.failure_count l.folder))));
  on_error : l.session.on_error ≡ l.fn.session.on_error;
  room : 0 < length l.buffer;
  fits : l.left ≤ longest_script;
  few : g.F.Folder.failure_count l.folder + l.left ≤ g.F.Folder.failure_count l.fn.folder + longest_script;
}

abbrev pub decreases-loop-n : goal.decreases-loop-n
decreases-loop-n g l = l.left
