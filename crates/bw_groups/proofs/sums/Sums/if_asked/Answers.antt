use Rattle.std.proofs.Common.{All}
use Rattle.std.proofs.lemmas.List.Elements.{All-weaker}
use Rattle.bw_cells.specs.SetFunctions.{known}
use Rattle.bw_groups.specs.Folding.{IsSmall}
use Rattle.bw_groups.specs.Runs.{IsWithin, values_in}
use Rattle.bw_groups.proofs.Members.{known_all}
use Rattle.bw_groups.proofs.sums.Sums.if_asked.Goals as goal

pub returns-in_ok-sums-clause-sums : goal.returns-in_ok-sums-clause-sums
returns-in_ok-sums-clause-sums b c = λ asked g d low.
    let ranks = c.args.groups.now.ranks in
    let values = values_in (b.C.ValueRuns.runs c.args.column.now) in
    let told = c.are_small.ensures c.if-are_small.true in
    let within : All (IsWithin told.0) (known values) = rw told.1 at c.bounds.ensures in
    c.in_ok-sums.ensures.tells g d low (known_all IsSmall g ranks values (All-weaker (IsWithin told.0) IsSmall told.2 (known values) within))
