use Rattle.std.proofs.Common.{length, vec_capacity, ◌+◌, ◌-◌, ◌≤◌}
use Rattle.bw_dictionary.specs.Merging.{Merging}
use Rattle.bw_dictionary.proofs.merging.merge_entries.Given as goal

abbrev pub invariant-merge : goal.invariant-merge
invariant-merge l = record {
  old : l.i ≤ length l.old;
  new : l.j ≤ length l.new;
  entries_room : length l.old + length l.new ≤ vec_capacity l.entries;
  moves_room : length l.old ≤ vec_capacity l.moves;
  places_room : length l.new ≤ vec_capacity l.places;
  merging : Merging l.old l.old_stands l.new l.new_stands l.i l.j l.entries.items l.moves.items l.places.items;
}

abbrev pub decreases-merge : goal.decreases-merge
decreases-merge l = (length l.old - l.i) + (length l.new - l.j)
