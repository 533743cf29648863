use Rattle.std.proofs.Common.{arith, drop, length, length-drop, length-take, take, ◌-◌, ◌≡◌, ◌∙◌}
use Rattle.bw_mask.proofs.Bits.{bit_above}
use Rattle.bw_code.proofs.Runs.{part_put}
use Rattle.bw_code.proofs.wide_run.fill_run.Goals as goal

pub returns : goal.returns
returns c =
    let at = c.args.at in
    let rows = c.args.rows in
    let n = c.min-end.result - at in
    let old = c.args.kept.now in
    let new = c.fill_chosen.new.kept in
    let part : length (take n (drop at old)) ≡ n = omega (arith, length-take n (drop at old), length-drop at old, c.min-end.ensures, c.requires.inside) in
    part_put old at rows (λ j. c.args.code) n new (omega (arith, c.min-end.ensures, c.requires.inside)) (c.fill_chosen.ensures.long ∙ part)
    (λ i h. c.fill_chosen.ensures.each i (omega (arith, h, part)))
    (λ i h l. bit_above rows i c.ranges.rows.fits (omega (arith, h, l, c.min-end.ensures)))
