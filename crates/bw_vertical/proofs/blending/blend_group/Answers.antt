use Rattle.std.proofs.Common.{ap, arith, get_or, inl, inr, length, refl, ◌%◌, ◌*◌, ◌-◌, ◌<◌, ◌≡◌, ◌∙◌}
use Rattle.bw_vertical.specs.Storage.{blended, lists, word_of}
use Rattle.bw_vertical.proofs.Placing.{group_other, keeps_sizes, word_in_group, word_now, words_other}
use Rattle.bw_vertical.proofs.blending.blend_group.Goals as goal

pub returns-clause-sizes : goal.returns-clause-sizes
returns-clause-sizes c =
    let vs = c.args.groups.now.items in
    let within : c.args.g < length vs = omega arith in
    keeps_sizes vs c.args.g c.index_mut-group.result.now c.blend_in_group.new.group within c.index_mut-group.ensures.value (omega (arith, c.blend_in_group.ensures.len)) (omega (arith, c.blend_in_group.ensures.capacity))

pub returns-clause-put : goal.returns-clause-put
returns-clause-put c i h group =
    let k = c.args.k in
    let w = c.args.w in
    let g = c.args.g in
    let m = c.args.m in
    let rows = c.args.rows in
    let words = c.args.words.now in
    let vs = c.args.groups.now.items in
    let v = c.index_mut-group.result.now in
    let add = c.blend_in_group.ensures in
    let read = c.index_mut-group.ensures.value in
    let within : g < length vs = omega arith in
    let low : i % 4 < m = omega (arith, h, group, c.requires.planes) in
    let place : k - 1 - 4 * g - i % 4 ≡ k - 1 - i = omega (arith, h, group) in
    word_now k w g m vs v c.blend_in_group.new.group within read c.requires.planes add.lanes add.before add.behind i w group
    ∙ add.put (i % 4) low
    ∙ ap (blended rows (get_or words (k - 1 - 4 * g - i % 4) 0)) (word_in_group k i w g m (i % 4) vs v within read group c.requires.planes refl)
    ∙ ap (λ n. blended rows (get_or words n 0) (word_of k (lists vs) i w)) place

pub returns-clause-other : goal.returns-clause-other
returns-clause-other c i x h away =
    let k = c.args.k in
    let w = c.args.w in
    let g = c.args.g in
    let m = c.args.m in
    let vs = c.args.groups.now.items in
    let v = c.index_mut-group.result.now in
    let add = c.blend_in_group.ensures in
    let read = c.index_mut-group.ensures.value in
    let within : g < length vs = omega arith in
    elim away [
      | inl d ↦ group_other k w g m vs v c.blend_in_group.new.group within read c.requires.planes add.lanes add.before add.behind i x d
      | inr d ↦ words_other k w g m vs v c.blend_in_group.new.group within read c.requires.planes add.lanes add.before add.behind i x h d
    ]
