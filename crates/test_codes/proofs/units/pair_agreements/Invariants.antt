use Rattle.std.proofs.Common.{get_or, vec_len, ℕ, ◌<◌, ◌≡◌}
use Rattle.bw_code.specs.Units.{segmentation}
use Rattle.test_codes.proofs.units.pair_agreements.Given as goal

abbrev pub invariant-loop-i : goal.invariant-loop-i
invariant-loop-i l = record {
  count : vec_len l.agreed ≡ l.i;
  agreed : (i : ℕ) → i < l.i → get_or l.agreed.items i 0 ≡ (segmentation l.layout l.width).agree (get_or l.codes i 0) (get_or l.others i 0);
}
