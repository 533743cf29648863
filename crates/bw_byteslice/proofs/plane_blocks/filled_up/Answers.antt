use Rattle.std.proofs.Common.{arith, ℕ}
use Rattle.std.proofs.lemmas.List.{length-replicate}
use Rattle.bw_code.proofs.LaneLemmas.{zeros}
use Rattle.bw_byteslice.proofs.plane_blocks.filled_up.Goals as goal

pub loop-r-init : goal.loop-r-init
loop-r-init c = (λ k h. absurd (omega (arith, h)), λ k h. zeros 64 k, length-replicate {A = ℕ} 64 0)
