use Rattle.std.proofs.Common.{◌/◌, ◌<◌, ap, ◌∙◌, arith}
use Rattle.bw_mask.specs.Masks.{row_in}
use Rattle.bw_mask.proofs.Views.{rows_replicate, same_words}
use Rattle.bw_mask.proofs.mask.Mask.filled.Goals as goal

pub returns : goal.returns
returns c =
    rows_replicate c.args.n (row_in c.without_rest.result.items) c.args.bit (λ j h.
    let within : j / 64 < c.div_ceil.result = grind arith in
    c.without_rest.ensures.kept j h ∙ ap (λ ws. row_in ws j) c.in_ok-words.ensures ∙ same_words c.div_ceil.result c.word_of.result c.args.bit c.word_of.ensures j within)
