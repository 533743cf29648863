use Rattle.std.proofs.Common.{get_or, ℕ, ◌+◌, ◌<◌, ◌≡◌}
use Rattle.bw_horizontal.specs.Words.{code_in}
use Rattle.bw_horizontal.proofs.storage.read_rows.Given as goal

-- the codes so far
abbrev pub invariant-loop-code : goal.invariant-loop-code
invariant-loop-code l = record {
  width : l.place.masks.width ≡ l.width;
  row : l.place.row ≡ l.at + l.code-index;
  codes : (i : ℕ) → i < l.code-index → get_or l.out i 0 ≡ code_in l.width l.words (l.at + i);
}
