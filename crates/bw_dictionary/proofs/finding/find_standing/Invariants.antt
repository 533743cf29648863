use Rattle.std.proofs.Common.{Some, get_or, length, pos, vec_capacity, ℕ, ◌<◌, ◌≡◌, ◌≤◌}
use Rattle.bw_code.specs.Encodings.{entry_code}
use Rattle.bw_dictionary.specs.Finding.{AreBelow}
use Rattle.bw_dictionary.specs.Merging.{StandsAt}
use Rattle.bw_dictionary.proofs.finding.find_standing.Given as goal

-- of the first ones in use the places are found, and the entries before the last of these places are below each that follows
abbrev pub invariant-wanted : goal.invariant-wanted
invariant-wanted l = record {
  inside : l.at ≤ length l.entries;
  count : length l.places.items ≡ l.i;
  room : length l.wanted ≤ vec_capacity l.places;
  found : (k : ℕ) → k < l.i → StandsAt l.stands k → entry_code l.entries (get_or l.wanted k (pos 0)) ≡ Some (get_or l.places.items k 0);
  before : l.i < length l.wanted → AreBelow l.entries (get_or l.wanted l.i (pos 0)) l.at;
}
