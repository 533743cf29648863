use Rattle.std.proofs.Common.{◌≡◌, map}
use Rattle.bw_model.specs.Store.{header_of}
use Rattle.bw_engine.proofs.create.headers_for.Given as goal

abbrev pub invariant-loop-column : goal.invariant-loop-column
invariant-loop-column l = l.headers.items ≡ map header_of l.yielded
