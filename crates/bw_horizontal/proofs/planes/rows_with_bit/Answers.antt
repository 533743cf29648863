use Rattle.std.proofs.Common.{arith, refl}
use Rattle.bw_mask.specs.Masks.{bit_of}
use Rattle.bw_horizontal.proofs.Marks.{rows_all, rows_joined}
use Rattle.bw_horizontal.proofs.planes.rows_with_bit.Goals as goal

pub loop-n-preserved : goal.loop-n-preserved
loop-n-preserved c =
    let k = c.args.masks.now.width in
    rows_joined k c.args.q c.loop-n.n c.loop-n.rows _ c.with_bit.result (λ code. bit_of code c.args.i) c.args.words.now (omega arith) refl c.with_bit.ensures c.loop-n.invariant

pub returns : goal.returns
returns c = rows_all c.args.masks.now.width c.args.q c.loop-n.n c.loop-n.rows (λ code. bit_of code c.args.i) c.args.words.now (omega arith) c.loop-n.invariant
