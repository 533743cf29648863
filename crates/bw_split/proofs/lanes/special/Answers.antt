use Rattle.std.proofs.Common.{eqb, arith}
use Rattle.std.proofs.lemmas.Simd.{zip2_splat}
use Rattle.bw_lex.proofs.LaneLemmas.{marked}
use Rattle.bw_split.proofs.SpecialBytes.{lanes_special}
use Rattle.bw_split.proofs.lanes.special.Goals as goal

pub returns : goal.returns
returns c =
    let v = c.args.bytes in
    let long = c.fits-bytes.0 in
    lanes_special v c.args.next _ _ _ _ (omega (arith, long)) (zip2_splat (λ a b. marked (eqb a b)) v 16 39 long) (zip2_splat (λ a b. marked (eqb a b)) v 16 59 long)
    (zip2_splat (λ a b. marked (eqb a b)) v 16 45 long) (zip2_splat (λ a b. marked (eqb a b)) c.args.next 16 45 c.fits-next.0)
