use Rattle.std.proofs.Common.{◌∙◌, ℕ, ap, get_or, nat_lt, replicate, w8}
use Rattle.std.proofs.lemmas.List.{length-replicate}
use Rattle.std.proofs.lemmas.Simd.{get_or-replicate}
use Rattle.bw_code.proofs.LaneLemmas.{lane_bit}
use Rattle.bw_cells.proofs.distances.set_bytes.Goals as goal

pub returns : goal.returns
returns c i h = lane_bit w8 nat_lt (replicate 64 0) c.args.bytes.now i (length-replicate {A = ℕ} 64 0) c.told-bytes h ∙ ap (λ x. nat_lt x (get_or c.args.bytes.now i 0)) (get_or-replicate 64 i 0 0 h)
