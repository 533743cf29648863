use Rattle.std.proofs.Common.{All, [], length, ◌≡◌}
use Rattle.bw_groups.proofs.fold.none_each.Given as goal

abbrev pub invariant-groups : goal.invariant-groups
invariant-groups g l = record { count : length l.folds.items ≡ l._g; none : All (λ fold. g.F.Fold.tells fold []) l.folds.items }
