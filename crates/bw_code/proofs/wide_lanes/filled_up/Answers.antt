use Rattle.std.proofs.Common.{arith, ℕ}
use Rattle.std.proofs.lemmas.List.{length-replicate}
use Rattle.bw_code.proofs.LaneLemmas.{zeros}
use Rattle.bw_code.proofs.wide_lanes.filled_up.Goals as goal

pub loop-i-init : goal.loop-i-init
loop-i-init c = (λ k h. absurd (omega (arith, h)), λ k h. zeros 64 k, length-replicate {A = ℕ} 64 0)
