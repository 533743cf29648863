use Rattle.std.proofs.Common.{[], ap, arith, get_or, length, ℕ, ◌%◌, ◌*◌, ◌+◌, ◌/◌, ◌<◌, ◌∙◌, ◌≡◌}
use mathlib.Core.Logic.{◌≢◌}
use Rattle.std.specs.Prelude.{if◌then◌else◌}
use Rattle.std.specs.Vec.{with_item}
use Rattle.std.proofs.lemmas.List.{get_or_read, get_or-set_other, get_or-set_same, length-set}
use Rattle.bw_mask.specs.Masks.{row_in}
use Rattle.bw_vertical.specs.Storage.{planes_in}
use Rattle.bw_vertical.proofs.Copied.{other_planes, place_within, row_before, row_now}
use Rattle.bw_vertical.proofs.Placing.{keeps_sizes}
use Rattle.bw_vertical.proofs.blending.blend_plane.Goals as goal

pub returns-clause-sizes : goal.returns-clause-sizes
returns-clause-sizes c =
    let vs = c.args.groups.now.items in
    let v = c.index_mut-group.result.now in
    let at = c.args.q * c.planes_in-m.result + c.args.i % 4 in
    let within : c.args.i / 4 < length vs = omega arith in
    keeps_sizes vs (c.args.i / 4) v (with_item v at c.blend_lanes.new.plane) within c.index_mut-group.ensures.value (length-set v.items at c.blend_lanes.new.plane) (omega arith)

pub returns-clause-put : goal.returns-clause-put
returns-clause-put c j h =
    let k = c.args.k in
    let q = c.args.q in
    let i = c.args.i in
    let m = c.planes_in-m.result in
    let at = q * m + i % 4 in
    let vs = c.args.groups.now.items in
    let v = c.index_mut-group.result.now in
    let plane = c.blend_lanes.new.plane in
    let u = with_item v at plane in
    let read = c.index_mut-group.ensures.value in
    let within : i / 4 < length vs = omega arith in
    let m_is : m ≡ planes_in k (i / 4) = c.planes_in-m.ensures in
    let inside : at < length v.items = place_within k q i m vs v c.requires.plane within read m_is c.requires.there in
    let planes : (b : ℕ) → b ≢ at → get_or u.items b [] ≡ get_or v.items b [] = λ b d. get_or-set_other v.items at b plane [] d in
    let before : row_in c.index_mut-plane.result.now j ≡ row_in (get_or v.items at []) j = ap (λ p. row_in p j) (get_or_read v.items at c.index_mut-plane.result.now inside c.index_mut-plane.ensures.value []) in
    row_now k q i m vs v c.requires.plane within read m_is u planes j h
    ∙ ap (λ p. row_in p j) (get_or-set_same v.items at plane [] inside)
    ∙ c.blend_lanes.ensures j h
    ∙ ap (λ z. if row_in c.args.rows.now j then row_in c.args.bits.now j else z) (before ∙ row_before k q i m vs v c.requires.plane within read m_is j h)

pub returns-clause-other : goal.returns-clause-other
returns-clause-other c p w inside away =
    let i = c.args.i in
    let m = c.planes_in-m.result in
    let at = c.args.q * m + i % 4 in
    let vs = c.args.groups.now.items in
    let v = c.index_mut-group.result.now in
    let plane = c.blend_lanes.new.plane in
    let within : i / 4 < length vs = omega arith in
    let planes : (b : ℕ) → b ≢ at → get_or (with_item v at plane).items b [] ≡ get_or v.items b [] = λ b d. get_or-set_other v.items at b plane [] d in
    other_planes c.args.k c.args.q i m vs v c.requires.plane within c.index_mut-group.ensures.value c.planes_in-m.ensures (with_item v at plane) planes p w inside away
