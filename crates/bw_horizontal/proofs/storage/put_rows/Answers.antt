use Rattle.std.proofs.Common.{ap, arith, ◌+◌, ◌∙◌}
use Rattle.bw_horizontal.proofs.Views.{codes_more, codes_other}
use Rattle.bw_horizontal.proofs.storage.put_rows.Goals as goal

pub loop-code-preserved : goal.loop-code-preserved
loop-code-preserved c =
    let k = c.args.width in
    let i = c.loop-code.code-index in
    let each = rw (c.loop-code.invariant.width, c.loop-code.invariant.row) at c.put.ensures.codes in
    record {
      width = c.after-place.ensures.width ∙ c.loop-code.invariant.width;
      row = c.after-place.ensures.row ∙ ap (λ n. n + 1) c.loop-code.invariant.row ∙ omega arith;
      stored = rw c.loop-code.invariant.width at c.put.ensures.stored;
      put = codes_more k c.args.at i c.loop-code.words c.put.new.words c.args.codes.now each c.loop-code.invariant.put;
      other = λ j h. codes_other k (c.args.at + i) _ c.loop-code.words c.put.new.words each j (λ e. let past = h (omega (arith, e)) in omega (arith, e, past)) ∙ c.loop-code.invariant.other j (λ l. omega (arith, h l));
    }
