use Rattle.std.proofs.Common.{if◌then◌else◌, length, ℕ, ◌*◌, ◌-◌, ◌/◌, ◌<◌, ◌≡◌, ◌≤◌}
use Rattle.std.specs.List.{All}
use Rattle.bw_lane.specs.Sections.{IsStored}
use Rattle.bw_code.specs.Columns.{is_chosen}
use Rattle.bw_horizontal.specs.Words.{code_in, segment_rows}
use Rattle.bw_horizontal.proofs.blending.fill_segments.Given as goal

-- the segments before this one are filled, and the others are as they were
abbrev pub invariant-segments : goal.invariant-segments
invariant-segments l = record {
  from : l.at / segment_rows l.width ≤ l.q;
  start : l.start ≡ l.q * segment_rows l.width;
  len : length l.words ≡ length l.fn.words;
  stored : All (IsStored l.width) l.words;
  done : (j : ℕ) → j / segment_rows l.width < l.q → code_in l.width l.words j ≡ (if is_chosen l.at l.rows j then l.code else code_in l.width l.fn.words j);
  left : (j : ℕ) → l.q ≤ j / segment_rows l.width → code_in l.width l.words j ≡ code_in l.width l.fn.words j;
}

abbrev pub decreases-segments : goal.decreases-segments
decreases-segments l = l.end - l.start
