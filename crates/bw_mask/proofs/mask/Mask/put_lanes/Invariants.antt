use Rattle.std.proofs.Common.{ℕ, ◌*◌, ◌+◌, ◌<◌, ◌≡◌, ◌≤◌}
use Rattle.bw_mask.specs.Masks.{SameShape, len, row_at, row_in}
use Rattle.bw_mask.proofs.mask.Mask.put_lanes.Given as goal

-- the words so far
abbrev pub invariant-loop-i : goal.invariant-loop-i
invariant-loop-i l = record {
  shape : SameShape l.self l.fn.self;
  inside : (j : ℕ) → j < 64 * l.i → 256 * l.q + j < len l.fn.self → row_at l.self (256 * l.q + j) ≡ row_in l.lanes j;
  outside : (j : ℕ) → (256 * l.q ≤ j → 256 * l.q + 256 ≤ j) → row_at l.self j ≡ row_at l.fn.self j;
}
