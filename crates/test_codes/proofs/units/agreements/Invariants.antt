use Rattle.std.proofs.Common.{get_or, max, vec_len, ℕ, ◌<◌, ◌≡◌}
use Rattle.bw_code.specs.Units.{segmentation}
use Rattle.test_codes.proofs.units.agreements.Given as goal

abbrev pub invariant-loop-code : goal.invariant-loop-code
invariant-loop-code l = record {
  count : vec_len l.agreed ≡ l.code-index;
  agreed : (i : ℕ) → i < l.code-index → get_or l.agreed.items i 0 ≡ max ((segmentation l.layout l.width).agree (get_or l.codes i 0) l.low) ((segmentation l.layout l.width).agree (get_or l.codes i 0) l.high);
}
