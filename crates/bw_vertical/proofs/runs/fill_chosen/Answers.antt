use Rattle.std.proofs.Common.{Bool, arith, get_or, if◌then◌else◌, inl, inr, refl, true, ◌*◌, ◌+◌, ◌-◌, ◌≡◌, ◌∙◌}
use Rattle.std.proofs.lemmas.Bool.{cases_Bool}
use Rattle.bw_mask.specs.Masks.{bit_of}
use Rattle.bw_vertical.specs.Storage.{is_set, lists}
use Rattle.bw_vertical.proofs.Blends.{row_blended}
use Rattle.bw_vertical.proofs.runs.fill_chosen.Goals as goal

where_set : (row new code old : Bool) → (row ≡ true → new ≡ code) → (if row then new else old) ≡ (if row then code else old)
where_set row new code old same =
    elim (cases_Bool row) [
      | inl e ↦ rw (e, same e) refl
      | inr e ↦ rw e refl
    ]

pub returns-clause-put : goal.returns-clause-put
returns-clause-put c i r h l =
    let k = c.args.k in
    let w = c.args.w in
    let rows = c.args.rows in
    let old = lists c.args.groups.now.items in
    let b = k - 1 - i in
    row_blended k i w rows (get_or c.equal_words.result b 0) r (lists c.blend_words.new.groups.items) old c.ranges.rows.fits l (c.blend_words.ensures.put i h)
    ∙ where_set (bit_of rows r) (bit_of (get_or c.equal_words.result b 0) r) (bit_of c.args.code b) (is_set k old i (64 * w + r)) (c.equal_words.ensures b r (omega (arith, h)) l)
