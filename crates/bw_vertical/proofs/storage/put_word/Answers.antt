use Rattle.std.proofs.Common.{arith, length, ◌/◌, ◌<◌}
use Rattle.bw_vertical.proofs.Placing.{keeps_sizes, word_other, word_same}
use Rattle.bw_vertical.proofs.storage.put_word.Goals as goal

pub returns-clause-sizes : goal.returns-clause-sizes
returns-clause-sizes c =
    let within : c.args.i / 4 < length c.args.groups.now.items = omega arith in
    keeps_sizes c.args.groups.now.items (c.args.i / 4) c.index_mut-group.result.now c.put_in_group.new.group within c.index_mut-group.ensures.value (omega (arith, c.put_in_group.ensures.len)) (omega (arith, c.put_in_group.ensures.capacity))

pub returns-clause-same : goal.returns-clause-same
returns-clause-same c =
    let within : c.args.i / 4 < length c.args.groups.now.items = omega arith in
    word_same c.args.k c.args.i c.args.w _ c.args.word c.args.groups.now.items c.index_mut-group.result.now c.put_in_group.new.group c.requires.plane within c.index_mut-group.ensures.value c.planes_in-m.ensures c.put_in_group.ensures.same c.put_in_group.ensures.lanes c.put_in_group.ensures.planes

pub returns-clause-other : goal.returns-clause-other
returns-clause-other c =
    let within : c.args.i / 4 < length c.args.groups.now.items = omega arith in
    word_other c.args.k c.args.i c.args.w _ c.args.word c.args.groups.now.items c.index_mut-group.result.now c.put_in_group.new.group c.requires.plane within c.index_mut-group.ensures.value c.planes_in-m.ensures c.put_in_group.ensures.same c.put_in_group.ensures.lanes c.put_in_group.ensures.planes
