use Rattle.std.proofs.Common.{ap, arith, get_or, sym, ◌∙◌}
use Rattle.std.proofs.Math.Nat.{zero-add}
use Rattle.bw_mask.specs.Masks.{bit_of}
use Rattle.bw_vertical.proofs.Halves.{half_bit}
use Rattle.bw_vertical.proofs.blocks.plane_words.Goals as goal

pub returns : goal.returns
returns c b r h l =
    let x = get_or c.args.codes.now r 0 in
    ap (λ n. bit_of (get_or c.put_codes.new.words n 0) r) (sym (zero-add b))
    ∙ c.put_codes.ensures.inside b r h l
    ∙ ap (λ v. bit_of v b) (c.narrowed.ensures r)
    ∙ half_bit x 0 b (omega (arith, h, c.requires.narrow))
    ∙ ap (bit_of x) (zero-add b)
