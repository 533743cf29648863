use Rattle.std.proofs.Common.{List, Option, length, pos, take, ℕ, ℤ, ◌++◌, ◌+◌, ◌^◌, ◌≡◌, ◌≤◌}
use Rattle.bw_groups.specs.Folding.{AreFolds}
use Rattle.bw_groups.specs.Runs.{IsMeasured}
use Rattle.bw_groups.proofs.fold.fold_run.Given as goal

-- what was told of the rows before row i
abbrev pub invariant-rows : goal.invariant-rows
invariant-rows g l = record {
  count : length l.folds.items ≡ length l.fn.folds.items;
  tells : (rows : List ℕ) (values run_values : List (Option ℤ)) → length values ≡ length rows → length rows + length l.ranks ≤ 2 ^ 24 → IsMeasured (pos 0) run_values (length l.ranks) l.present l.run → AreFolds g.F.Fold.tells rows values l.fn.folds.items → AreFolds g.F.Fold.tells (rows ++ take l.i l.ranks) (values ++ take l.i run_values) l.folds.items;
}
