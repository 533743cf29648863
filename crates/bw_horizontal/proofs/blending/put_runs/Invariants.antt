use Rattle.std.proofs.Common.{get_or, if◌then◌else◌, length, ℕ, ◌+◌, ◌-◌, ◌<◌, ◌≡◌, ◌≤◌}
use Rattle.std.specs.List.{All}
use Rattle.bw_mask.specs.Masks.{bit_of}
use Rattle.bw_lane.specs.Sections.{IsStored}
use Rattle.bw_horizontal.specs.Words.{code_in}
use Rattle.bw_horizontal.proofs.blending.put_runs.Given as goal

-- the codes so far
abbrev pub invariant-runs : goal.invariant-runs
invariant-runs l = record {
  some : l.done ≤ length l.codes;
  len : length l.words ≡ length l.fn.words;
  width : l.place.masks.width ≡ l.width;
  row : l.place.row ≡ l.at + l.done;
  stored : All (IsStored l.width) l.words;
  put : (i : ℕ) → i < l.done → code_in l.width l.words (l.at + i) ≡ (if bit_of l.rows i then get_or l.codes i 0 else code_in l.width l.fn.words (l.at + i));
  other : (j : ℕ) → (l.at ≤ j → l.at + l.done ≤ j) → code_in l.width l.words j ≡ code_in l.width l.fn.words j;
}

abbrev pub decreases-runs : goal.decreases-runs
decreases-runs l = length l.codes - l.done
