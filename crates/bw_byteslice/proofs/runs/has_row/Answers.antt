-- The table holds 2 ^ (r % 8) at each r, by computing.
use Rattle.std.proofs.Common.{Bool, ap, bit_and, nat_eq, not, refl, slice_index_or, true, ℕ, ◌%◌, ◌<◌, ◌==◌, ◌^◌, ◌≡◌, ◌∙◌}
use Rattle.std.proofs.lemmas.Bool.{agree_below, agree_below_at, eqb-true}
use Rattle.bw_byteslice.specs.declared.runs.TheConstants.{BITS}
use Rattle.bw_byteslice.proofs.Blends.{bit_tested}
use Rattle.bw_byteslice.proofs.runs.has_row.Goals as goal

is_bit : ℕ → Bool
is_bit r = nat_eq (slice_index_or BITS r 0) (2 ^ (r % 8))

all_bits : agree_below is_bit (λ _. true) 64 ≡ true
unfolding is_bit
all_bits = refl

bit : (r : ℕ) → r < 64 → slice_index_or BITS r 0 ≡ 2 ^ (r % 8)
unfolding is_bit
bit r h = eqb-true _ _ (agree_below_at is_bit (λ _. true) 64 r all_bits h)

pub returns : goal.returns
returns c = ap (λ n. not (bit_and c.args.byte n == 0)) (bit c.args.r c.requires) ∙ bit_tested c.args.byte (c.args.r % 8)
