use Rattle.std.proofs.Common.{drop, length, ◌++◌, ◌*◌, ◌∷◌, ◌≡◌, ◌≤◌}
use Rattle.bw_shell.specs.ValueTexts.{value_text}
use Rattle.bw_shell.proofs.Texts.{others_text}
use Rattle.bw_shell.proofs.backward_text.write_line.Given as goal

-- the mark and what is written are the values from i on, each with its comma, and the end of the line
abbrev pub invariant-loop-i : goal.invariant-loop-i
invariant-loop-i l = record {
  inside : l.i ≤ length l.values;
  before : l.at ≤ l.end;
  room : 21 * l.i ≤ l.at;
  text : l.mark ∷ drop l.at l.bytes ≡ others_text value_text (drop l.i l.values) ++ 10 ∷ drop l.end l.fn.bytes;
}

abbrev pub decreases-loop-i : goal.decreases-loop-i
decreases-loop-i l = l.i
