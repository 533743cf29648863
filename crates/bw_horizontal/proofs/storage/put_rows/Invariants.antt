use Rattle.std.proofs.Common.{get_or, ℕ, ◌+◌, ◌<◌, ◌≡◌, ◌≤◌}
use Rattle.std.specs.List.{All}
use Rattle.bw_lane.specs.Sections.{IsStored}
use Rattle.bw_horizontal.specs.Words.{code_in}
use Rattle.bw_horizontal.proofs.storage.put_rows.Given as goal

-- the codes so far
abbrev pub invariant-loop-code : goal.invariant-loop-code
invariant-loop-code l = record {
  width : l.place.masks.width ≡ l.width;
  row : l.place.row ≡ l.at + l.code-index;
  stored : All (IsStored l.width) l.words;
  put : (i : ℕ) → i < l.code-index → code_in l.width l.words (l.at + i) ≡ get_or l.codes i 0;
  other : (j : ℕ) → (l.at ≤ j → l.at + l.code-index ≤ j) → code_in l.width l.words j ≡ code_in l.width l.fn.words j;
}
