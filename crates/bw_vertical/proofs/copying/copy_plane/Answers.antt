use Rattle.std.proofs.Common.{ap, ◌*◌, ◌+◌, ◌-◌, ◌∙◌}
use Rattle.std.specs.Prelude.{if◌then◌else◌}
use Rattle.bw_mask.specs.Masks.{row_in}
use Rattle.bw_vertical.specs.Storage.{is_set, lists}
use Rattle.bw_vertical.proofs.copying.copy_plane.Goals as goal

pub returns-clause-plane : goal.returns-clause-plane
returns-clause-plane c j h start =
    let k = c.args.k in
    let old = is_set k (lists c.args.groups.now.items) (k - 1 - c.args.b) (256 * c.args.q + j) in
    c.blend_plane.ensures.put j h ∙ ap (λ z. if row_in c.args.rows.now j then z else old) (c.sum_bits-bits.ensures.sums j h start)
