use Rattle.std.proofs.Common.{None, ap, arith, get_or, length-set, ◌<◌, ◌∙◌, ◌∷◌, [], ◌++◌, sym, length}
use Rattle.std.proofs.lemmas.List.{take-set, take_more_set}
use Rattle.bw_mask.specs.Masks.{bit_of}
use Rattle.bw_column.specs.Values.{value_at}
use Rattle.bw_table.proofs.Picks.{picked_in, picked_out}
use Rattle.bw_table.proofs.gathering.pick.Goals.{else-has_bit, then-has_bit}
use Rattle.bw_table.proofs.gathering.pick.Goals as goal

pub loop-i-preserved : goal.loop-i-preserved
loop-i-preserved c =
    let run = c.args.run.now in
    let rows = c.args.rows in
    let i = c.loop-i.i in
    let n = c.loop-i.count in
    let out = c.loop-i.out in
    let x = get_or run i None in
    let inv = c.loop-i.invariant in
    record {
      few = elim c.if-has_bit.branch [ then-has_bit w ↦ omega (arith, w.count-is, inv.few) | else-has_bit w ↦ omega (arith, w.count-is, inv.few) ];
      long = length-set out n x ∙ inv.long;
      front =
          elim c.if-has_bit.branch [
            | then-has_bit w ↦
                let low : n < length out = omega (arith, inv.few, inv.long, c.requires, c.loop-i-test.true) in
                rw w.count-is (take_more_set out n x low ∙ ap (λ xs. xs ++ x ∷ []) inv.front ∙ sym (picked_in (bit_of rows) (value_at run) i (sym c.has_bit.ensures ∙ w.if-has_bit.true)))
            | else-has_bit w ↦ rw w.count-is (take-set out n x ∙ inv.front ∙ sym (picked_out (bit_of rows) (value_at run) i (sym c.has_bit.ensures ∙ w.if-has_bit.false)))
          ];
    }
