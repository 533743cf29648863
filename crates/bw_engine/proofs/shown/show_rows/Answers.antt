use Rattle.std.proofs.Common.{arith, sym, ◌∙◌}
use Rattle.bw_mask.specs.Masks.{bit_of}
use Rattle.bw_engine.specs.Runs.{line_across}
use Rattle.bw_engine.proofs.RunLaws.{lines_left, lines_put}
use Rattle.bw_engine.proofs.shown.show_rows.Goals as goal
use Rattle.bw_engine.proofs.shown.show_rows.Goals.{then-has_bit+in_ok-show_row, else-has_bit}

pub loop-i-preserved : goal.loop-i-preserved
loop-i-preserved c =
    let line = line_across c.args.runs.now in
    let passes = bit_of c.args.word in
    let i = c.loop-i.i in
    let old = c.args.values.now.items in
    elim c.if-has_bit.branch [
      | then-has_bit+in_ok-show_row w ↦ rw w.values-is (lines_put line passes i i old c.loop-i.values.items _ (omega arith) (sym c.has_bit.ensures ∙ w.if-has_bit.true) c.loop-i.invariant w.in_ok-show_row.ensures)
      | else-has_bit w ↦ rw w.values-is (lines_left line passes i i old c.loop-i.values.items (omega arith) (sym c.has_bit.ensures ∙ w.if-has_bit.false) c.loop-i.invariant)
    ]
