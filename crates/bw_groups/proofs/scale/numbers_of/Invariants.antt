use Rattle.std.proofs.Common.{cond, get_or, length, ℕ, ◌%◌, ◌<◌, ◌^◌, ◌≡◌}
use Rattle.bw_mask.specs.Masks.{bit_of}
use Rattle.bw_groups.proofs.scale.numbers_of.Given as goal

-- the values before value i are taken
abbrev pub invariant-run : goal.invariant-run
invariant-run l = record {
  wide : length l.new ≡ 64;
  numbers : (k : ℕ) → k < l.i → get_or l.new k 0 ≡ cond (bit_of l.measured.present k) (get_or l.run k 0 % 2 ^ 32) l.scale.null;
}
