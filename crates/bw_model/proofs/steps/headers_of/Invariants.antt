use Rattle.std.proofs.Common.{◌≡◌, map, take}
use Rattle.bw_model.specs.Store.{header_of}
use Rattle.bw_model.proofs.steps.headers_of.Given as goal

abbrev pub invariant-loop-column : goal.invariant-loop-column
invariant-loop-column l = l.headers.items ≡ map header_of (take l.column-index l.columns)
