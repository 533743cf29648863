use Rattle.bw_engine.proofs.create.empty_table.Goals as goal

pub create-requires : goal.create-requires
create-requires c = rw c.in_ok-headers.ensures c.requires
