use Rattle.std.proofs.Common.{◌≡◌, drop}
use Rattle.bw_model.specs.Store.{table_of}
use Rattle.bw_model.proofs.store.table_of.Given as goal

abbrev pub invariant-loop-other : goal.invariant-loop-other
invariant-loop-other l = table_of (drop l.other-index l.tables) l.name ≡ table_of l.tables l.name
