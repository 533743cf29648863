use Rattle.std.proofs.Common.{drop, length, take, ◌*◌, ◌+◌, ◌-◌, ◌<◌, ◌≡◌, ◌≤◌}
use Rattle.bw_column.specs.Places.{chosen_values}
use Rattle.bw_table.specs.Changes.{places_below}
use Rattle.bw_table.proofs.chosen_cells.ChosenCellsCells.read.Given as goal

-- the cells so far; the next one is in this word or a later one
abbrev pub invariant-loop-done : goal.invariant-loop-done
invariant-loop-done l = record {
  inside : l.done ≤ length l.out;
  long : length l.out ≡ length l.fn.out;
  front : take l.done l.out ≡ take l.done (drop l.at (chosen_values l.self-inside.mask.now l.self-inside.column.now.values));
  low : l.done < length l.out → length (places_below l.self-inside.mask.now (64 * l.w)) ≤ l.at + l.done;
  high : l.at + l.done ≤ length (places_below l.self-inside.mask.now (64 * (l.w + 1)));
}

abbrev pub decreases-loop-done : goal.decreases-loop-done
decreases-loop-done l = length l.self-inside.before.items - l.w
