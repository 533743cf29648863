use Rattle.std.proofs.Common.{All, IsTrue}
use Rattle.bw_code.specs.Types.{holds_its_type}
use Rattle.test_tables.proofs.harness.headers_of.Given as goal

abbrev pub invariant-loop-column : goal.invariant-loop-column
invariant-loop-column g l = All (λ header. IsTrue (holds_its_type header)) l.headers.items
