use Rattle.std.proofs.Common.{[], ap, arith, get_or, length, refl, ◌%◌, ◌*◌, ◌+◌, ◌-◌, ◌/◌, ◌<◌, ◌≡◌, ◌∙◌}
use Rattle.bw_vertical.proofs.Placing.{word_in_group}
use Rattle.bw_vertical.proofs.plane_blocks.take_group.Goals as goal

pub returns-clause-taken : goal.returns-clause-taken
returns-clause-taken c i w h group low =
    let k = c.args.k in
    let q = c.args.q in
    let g = c.args.g in
    let m = c.args.m in
    let vs = c.args.groups.now in
    let planes = c.index-groups-g.result.items in
    let within : g < length vs = omega arith in
    let column : i % 4 < m = omega (arith, h, group, c.requires.planes) in
    let place : k - 1 - i ≡ k - 1 - 4 * g - i % 4 = omega (arith, h, group) in
    let segment : q ≡ (4 * q + w) / 4 = omega (arith, low) in
    let lane : w ≡ (4 * q + w) % 4 = omega (arith, low) in
    ap (λ n. get_or (get_or c.take_part.new.block n []) (4 * c.args.s + w) 0) place
    ∙ c.take_part.ensures.taken (i % 4) w column low
    ∙ ap (λ xs. get_or (get_or xs (q * m + i % 4) []) w 0) c.deref.ensures.value
    ∙ ap (λ z. get_or (get_or planes (z * m + i % 4) []) w 0) segment
    ∙ ap (λ z. get_or (get_or planes ((4 * q + w) / 4 * m + i % 4) []) z 0) lane
    ∙ word_in_group k i (4 * q + w) g m (i % 4) vs c.index-groups-g.result within c.index-groups-g.is group c.requires.planes refl
