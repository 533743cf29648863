use Rattle.std.proofs.Common.{get_or, nat_le, replicate, take, w64, ℕ, ◌%◌, ◌+◌, ◌-◌, ◌^◌, ◌∙◌, ap}
use lib.Lanes.{zip2}
use Rattle.std.proofs.lemmas.List.{length-replicate}
use Rattle.std.proofs.lemmas.Simd.{get_or-replicate}
use Rattle.bw_code.proofs.LaneLemmas.{lane_bit, lane_with, lanes_with, moved_down_64}
use Rattle.bw_column.proofs.ends.rows_between.Goals as goal

pub returns : goal.returns
returns c i h =
    let xs = c.args.codes.now in
    let low = c.args.low in
    let span = c.args.span in
    let down : ℕ → ℕ → ℕ = λ a b. (a + (2 ^ 64 - b)) % 2 ^ 64 in
    lane_bit w64 nat_le (zip2 down (take 64 xs) (replicate 64 low)) (replicate 64 span) i (lanes_with down xs low c.requires.long) (length-replicate {A = ℕ} 64 span) h
    ∙ ap (λ a. nat_le a (get_or (replicate 64 span) i 0)) (lane_with down xs low c.requires.long i h)
    ∙ ap (nat_le (down (get_or xs i 0) low)) (get_or-replicate 64 i span 0 h)
    ∙ moved_down_64 (get_or xs i 0) low span (c.type_inv.codes i).fits c.requires.ends
