use Rattle.std.proofs.Common.{arith, drop, get_or, length, length-drop, length-take, take, ◌+◌, ◌-◌, ◌≡◌, ◌∙◌}
use Rattle.bw_code.proofs.Runs.{part_put}
use Rattle.bw_code.proofs.plain_run.put_run.Goals as goal

pub returns : goal.returns
returns c =
    let at = c.args.at in
    let codes = c.args.codes.now in
    let n = at + length codes - at in
    let old = c.args.kept.now in
    let new = c.put_chosen.new.kept in
    let part : length (take n (drop at old)) ≡ n = omega (arith, length-take n (drop at old), length-drop at old, c.requires.there) in
    part_put old at c.args.rows (λ j. get_or codes (j - at) 0) n new (omega (arith, c.requires.there)) (c.put_chosen.ensures.long ∙ part)
    (λ i h. let here : at + i - at ≡ i = omega arith in rw here (c.put_chosen.ensures.each i (omega (arith, h, part))))
    (λ i h l. c.requires.given i (omega (arith, h)))
