use Rattle.std.proofs.Common.{All, take, ◌≡◌}
use Rattle.bw_code.specs.declared.kind.ColumnType.TheVariants.{Integer}
use Rattle.bw_model.specs.Store.{Header}
use Rattle.bw_plan.proofs.headers.Headers.are_integer.Given as goal

-- the columns so far are INTEGER
abbrev pub invariant-loop-header : goal.invariant-loop-header
invariant-loop-header l = All (λ (header : Header). header.column_type ≡ Integer) (take l.header-index l.header-items)
