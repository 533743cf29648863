use Rattle.std.proofs.Common.{drop}
use Rattle.bw_model.specs.ReplyText.{cell_text, with_commas}
use Rattle.bw_shell.proofs.Texts.{Progress, others_text}
use Rattle.bw_shell.proofs.lines.put_cells.Given as goal

abbrev pub invariant-loop-cell : goal.invariant-loop-cell
invariant-loop-cell g l = Progress (g.W.Write.contents l.fn.writer) (g.W.Write.contents l.writer) (with_commas cell_text l.cells) (others_text cell_text (drop l.cell-index l.others))
