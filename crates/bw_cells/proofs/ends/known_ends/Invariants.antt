use Rattle.std.proofs.Common.{FitsSigned, [], false, fold, length, take, true, w64, ◌<◌, ◌≡◌}
use Rattle.std.specs.Int.{int_max, int_min}
use Rattle.std.specs.List.{All}
use Rattle.bw_cells.specs.Known.{known}
use Rattle.bw_cells.proofs.ends.known_ends.Given as goal

abbrev pub invariant-loop-i : goal.invariant-loop-i
invariant-loop-i l = record {
  least : l.least ≡ fold int_min l.initial.least (known (take l.i l.values));
  greatest : l.greatest ≡ fold int_max l.initial.greatest (known (take l.i l.values));
  fits : All (FitsSigned w64) (known (take l.i l.values));
  some : l.any ≡ true → 0 < length (known (take l.i l.values));
  none : l.any ≡ false → known (take l.i l.values) ≡ [];
}
