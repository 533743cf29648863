use Rattle.std.proofs.Common.{get_or, if◌then◌else◌, length, ℕ, ◌%◌, ◌*◌, ◌+◌, ◌<◌, ◌^◌, ◌≡◌, ◌≤◌}
use Rattle.std.specs.List.{All}
use Rattle.bw_mask.specs.Masks.{bit_of}
use Rattle.bw_lane.specs.Sections.{IsStored, section_of, sections_in}
use Rattle.bw_horizontal.proofs.rebasing.shift_segment.Given as goal

-- the words before this one are rebased, and the others are as they were
abbrev pub invariant-loop-i : goal.invariant-loop-i
invariant-loop-i l = record {
  len : length l.segment ≡ length l.fn.segment;
  stored : All (IsStored l.masks.width) l.segment;
  done : (i t : ℕ) → i < l.i → t < sections_in l.masks.width → section_of l.masks.width t (get_or l.segment i 0)
      ≡ (section_of l.masks.width t (get_or l.fn.segment i 0) + (if bit_of l.rows (i + t * (l.masks.width + 1)) then section_of l.masks.width t l.more else 0)) % 2 ^ l.masks.width;
  left : (i : ℕ) → l.i ≤ i → get_or l.segment i 0 ≡ get_or l.fn.segment i 0;
}
