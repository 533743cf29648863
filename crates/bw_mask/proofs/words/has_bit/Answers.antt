-- The table holds 2 ^ k at each k, by computing, and a word shares that bit where its own is set.
use Rattle.std.proofs.Common.{bit_and, ◌≡◌, true, ℕ, zero, suc, ◌*◌, ◌<◌, ◌^◌, ◌==◌, not, slice_index_or, Bool, nat_eq, refl, ap, arith, pow_pos, ◌∙◌}
use Rattle.std.proofs.lemmas.Bool.{agree_below, agree_below_at, eqb-true}
use Rattle.std.proofs.lemmas.Nat.Bits.{and_pow, bit_at-lt}
use Rattle.std.specs.Int.{bit_at}
use Rattle.bw_mask.specs.Masks.{bit_of}
use Rattle.bw_mask.specs.declared.words.TheConstants.{BITS}
use Rattle.bw_mask.proofs.words.has_bit.Goals as goal

is_power : ℕ → Bool
is_power k = nat_eq (slice_index_or BITS k 0) (2 ^ k)

all_powers : agree_below is_power (λ _. true) 64 ≡ true
unfolding is_power
all_powers = refl

power : (k : ℕ) → k < 64 → slice_index_or BITS k 0 ≡ 2 ^ k
unfolding is_power
power k h = eqb-true _ _ (agree_below_at is_power (λ _. true) 64 k all_powers h)

scaled : (b p : ℕ) → b < 2 → 0 < p → not (nat_eq (b * p) 0) ≡ (b == 1)
scaled zero p h k = grind (arith)
scaled (suc zero) p h k = grind (arith)
scaled (suc (suc b)) p h k = absurd (omega arith)

shared : (w k : ℕ) → not (nat_eq (bit_and w (2 ^ k)) 0) ≡ bit_of w k
shared w k = ap (λ n. not (nat_eq n 0)) (and_pow w k) ∙ scaled (bit_at w k) (2 ^ k) (bit_at-lt w k) (pow_pos k)

pub returns : goal.returns
returns c = ap (λ n. not (nat_eq (bit_and c.args.word n) 0)) (power c.args.i c.requires) ∙ shared c.args.word c.args.i
