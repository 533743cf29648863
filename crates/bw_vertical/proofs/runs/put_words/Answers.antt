use Rattle.std.proofs.Common.{Bool, ap, arith, get_or, if◌then◌else◌, ◌*◌, ◌+◌, ◌-◌, ◌∙◌}
use Rattle.bw_mask.specs.Masks.{bit_of}
use Rattle.bw_vertical.specs.Storage.{is_set, lists}
use Rattle.bw_vertical.proofs.Blends.{row_blended}
use Rattle.bw_vertical.proofs.runs.put_words.Goals as goal

pub returns-clause-put : goal.returns-clause-put
returns-clause-put c i r h l =
    let k = c.args.k in
    let w = c.args.w in
    let rows = c.args.rows in
    let old = lists c.args.groups.now.items in
    let b = k - 1 - i in
    row_blended k i w rows (get_or c.args.words.now b 0) r (lists c.blend_words.new.groups.items) old c.ranges.rows.fits l (c.blend_words.ensures.put i h)
    ∙ ap (λ (x : Bool). if bit_of rows r then x else is_set k old i (64 * w + r)) (c.requires.words b r (omega (arith, h)) l)
