use Rattle.std.proofs.Common.{ltb, arith}
use Rattle.std.proofs.lemmas.Simd.{zip2_splat, zip2_splat_left}
use Rattle.bw_lex.proofs.LaneLemmas.{either, marked, masked, no_digit_is, top_either}
use Rattle.std.proofs.Common.{◌∙◌}
use Rattle.bw_lex.proofs.lanes.no_digits.Goals as goal

pub returns : goal.returns
returns c =
    let v = c.args.bytes in
    masked _ _ v _ (λ x. top_either (ltb x 48) (ltb 57 x) ∙ no_digit_is x) (omega (arith, c.fits-bytes.0))
    (either _ _ v (zip2_splat (λ a b. marked (ltb a b)) v 16 48 c.fits-bytes.0) (zip2_splat_left (λ a b. marked (ltb a b)) 57 16 v c.fits-bytes.0))
