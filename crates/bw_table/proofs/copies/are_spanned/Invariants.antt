use Rattle.std.proofs.Common.{get_or, true, ℕ, ◌<◌, ◌^◌, ◌≡◌}
use Rattle.bw_mask.specs.Masks.{bit_of}
use Rattle.bw_table.proofs.copies.are_spanned.Given as goal

-- the greatest so far is that of an INTEGER where each is
abbrev pub invariant-loop-i : goal.invariant-loop-i
invariant-loop-i l = record {
  below : l.greatest < 2 ^ 32 → (k : ℕ) → k < l.i → bit_of l.rows k ≡ true → get_or l.distances k 0 < 2 ^ 32;
  above : ((k : ℕ) → k < l.i → bit_of l.rows k ≡ true → get_or l.distances k 0 < 2 ^ 32) → l.greatest < 2 ^ 32;
}
