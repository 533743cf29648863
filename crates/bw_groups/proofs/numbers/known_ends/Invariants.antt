use Rattle.std.proofs.Common.{All, take, ◌≤ℤ◌}
use Rattle.bw_cells.specs.SetFunctions.{known}
use Rattle.bw_groups.proofs.numbers.known_ends.Given as goal

abbrev pub invariant-values : goal.invariant-values
invariant-values l = record {
  least : All (λ x. l.least ≤ℤ x) (known (take l.i l.values));
  greatest : All (λ x. x ≤ℤ l.greatest) (known (take l.i l.values));
}
