use Rattle.std.proofs.Common.{◌≡◌, ◌++◌, drop}
use Rattle.bw_model.specs.ReplyText.{cell_text, with_commas}
use Rattle.bw_model.proofs.Commas.{others_text}
use Rattle.bw_model.proofs.texts.cells_text.Given as goal

abbrev pub invariant-loop-cell : goal.invariant-loop-cell
invariant-loop-cell l = l.text.items ++ others_text cell_text (drop l.cell-index l.others) ≡ with_commas cell_text l.cells
