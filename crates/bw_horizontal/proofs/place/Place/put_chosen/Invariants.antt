use Rattle.std.proofs.Common.{get_or, if◌then◌else◌, length, ℕ, ◌+◌, ◌<◌, ◌==◌, ◌≡◌, ◌≤◌}
use Rattle.std.specs.List.{All}
use Rattle.bw_mask.specs.Masks.{bit_of}
use Rattle.bw_lane.specs.Sections.{IsStored, section_of}
use Rattle.bw_horizontal.proofs.place.Place.put_chosen.Given as goal

-- the words so far: of each the row's section is the code where the row is chosen, and the other sections are as before
abbrev pub invariant-loop-i : goal.invariant-loop-i
invariant-loop-i l = record {
  len : length l.run ≡ length l.codes;
  stored : All (IsStored l.self.masks.width) l.run;
  put : (m : ℕ) → m < l.i → (u : ℕ) → section_of l.self.masks.width u (get_or l.run m 0) ≡ (if u == l.self.section then (if bit_of l.rows m then get_or l.codes m 0 else section_of l.self.masks.width l.self.section (get_or l.fn.words (l.first + m) 0)) else section_of l.self.masks.width u (get_or l.fn.words (l.first + m) 0));
  kept : (m : ℕ) → l.i ≤ m → m < length l.codes → get_or l.run m 0 ≡ get_or l.fn.words (l.first + m) 0;
}
