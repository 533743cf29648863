use Rattle.std.proofs.Common.{[], ap, arith, get_or, length, refl, ◌%◌, ◌*◌, ◌+◌, ◌-◌, ◌/◌, ◌<◌, ◌≡◌, ◌∙◌}
use Rattle.bw_vertical.proofs.Placing.{word_in_group}
use Rattle.bw_vertical.proofs.storage.take_group.Goals as goal

pub returns-clause-taken : goal.returns-clause-taken
returns-clause-taken c i h group =
    let k = c.args.k in
    let w = c.args.w in
    let g = c.args.g in
    let m = c.args.m in
    let vs = c.args.groups.now in
    let within : g < length vs = omega arith in
    let low : i % 4 < m = omega (arith, h, group, c.requires.planes) in
    let place : k - 1 - i ≡ k - 1 - 4 * g - i % 4 = omega (arith, h, group) in
    ap (λ n. get_or c.take_words.new.words n 0) place
    ∙ c.take_words.ensures.taken (i % 4) low
    ∙ ap (λ planes. get_or (get_or planes (w / 4 * m + i % 4) []) (w % 4) 0) c.deref.ensures.value
    ∙ word_in_group k i w g m (i % 4) vs c.index-groups-g.result within c.index-groups-g.is group c.requires.planes refl
