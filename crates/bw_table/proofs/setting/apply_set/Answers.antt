use Rattle.bw_table.proofs.setting.apply_set.Goals as goal

pub take-requires-clause-prepared : goal.take-requires-clause-prepared
take-requires-clause-prepared c =
    let can = rw c.in-Take.is at c.requires.can in
    rw c.index_mut.ensures.value (can.prepared c.index_mut.result.now)
