use Rattle.std.proofs.Common.{ap, replicate, ◌∙◌}
use Rattle.bw_mask.proofs.Pairs.{filled_len, filled_pair, filled_row, truths_same}
use Rattle.bw_mask.proofs.truth.Truth.filled.Goals as goal

pub new-requires : goal.new-requires
new-requires c =
    filled_pair c.args.n c.args.value c.in_ok-trues.trues c.in_ok-falses.falses (c.in_ok-trues.ensures ∙ ap (replicate c.args.n) c.is.ensures.same) (c.in_ok-falses.ensures ∙ ap (replicate c.args.n) c.is-2.ensures.same)

pub returns : goal.returns
returns c =
    let trues_are = c.in_ok-trues.ensures ∙ ap (replicate c.args.n) c.is.ensures.same in
    let falses_are = c.in_ok-falses.ensures ∙ ap (replicate c.args.n) c.is-2.ensures.same in
    truths_same c.args.n c.args.value c.new.result
    (c.new.ensures.len ∙ filled_len c.args.n c.args.value c.in_ok-trues.trues c.in_ok-falses.falses trues_are falses_are)
    (λ i h. c.new.ensures.rows i ∙ filled_row c.args.n c.args.value c.in_ok-trues.trues c.in_ok-falses.falses trues_are falses_are i h)
