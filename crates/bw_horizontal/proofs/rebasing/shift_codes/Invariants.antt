use Rattle.std.proofs.Common.{if◌then◌else◌, length, ℕ, ◌%◌, ◌+◌, ◌/◌, ◌<◌, ◌^◌, ◌≡◌, ◌≤◌}
use Rattle.std.specs.List.{All}
use Rattle.bw_lane.specs.Sections.{IsStored}
use Rattle.bw_mask.specs.Masks.{row_at}
use Rattle.bw_horizontal.specs.Words.{code_in, segment_rows}
use Rattle.bw_horizontal.proofs.rebasing.shift_codes.Given as goal

-- the segments before this one are rebased, and the others are as they were
abbrev pub invariant-loop-q : goal.invariant-loop-q
invariant-loop-q l = record {
  len : length l.words ≡ length l.fn.words;
  stored : All (IsStored l.width) l.words;
  done : (j : ℕ) → j / segment_rows l.width < l.q → code_in l.width l.words j ≡ (code_in l.width l.fn.words j + (if row_at l.rows j then l.by else 0)) % 2 ^ l.width;
  left : (j : ℕ) → l.q ≤ j / segment_rows l.width → code_in l.width l.words j ≡ code_in l.width l.fn.words j;
}
