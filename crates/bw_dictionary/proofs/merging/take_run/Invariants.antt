use Rattle.std.proofs.Common.{Bool, List, length, vec_capacity, ℕ, ◌-◌, ◌≤◌}
use Rattle.bw_dictionary.specs.Merging.{Merging}
use Rattle.bw_dictionary.proofs.merging.take_run.Given as goal

-- the entries before i were taken
abbrev pub invariant-run : goal.invariant-run
invariant-run l = record {
  from : l.from ≤ l.i;
  inside : l.i ≤ length l.old;
  entries_room : vec_capacity l.fn.entries ≤ vec_capacity l.entries;
  moves_room : vec_capacity l.fn.moves ≤ vec_capacity l.moves;
  merging : (new_stands : List Bool) (places : List ℕ) → Merging l.old l.stands l.new new_stands l.from l.j l.fn.entries.items l.fn.moves.items places → Merging l.old l.stands l.new new_stands l.i l.j l.entries.items l.moves.items places;
}

abbrev pub decreases-run : goal.decreases-run
decreases-run l = length l.old - l.i
