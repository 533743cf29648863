use Rattle.std.proofs.Common.{take}
use Rattle.std.specs.Prelude.{All}
use Rattle.bw_sql.specs.Names.{IsName}
use Rattle.bw_file.proofs.headers.have_names.Given as goal

abbrev pub invariant-loop-header : goal.invariant-loop-header
invariant-loop-header l = All (λ header. IsName header.name) (take l.header-index l.headers)
