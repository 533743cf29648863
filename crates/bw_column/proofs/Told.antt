-- One byte more says whether a test holds.
use Rattle.std.proofs.Common.{Bool, ap, arith, below_more, false, get_or, get_or-set_other, get_or-set_same, length, nat_lt, refl, set, true, List, ℕ, ◌+◌, ◌<◌, ◌≡◌, ◌≢◌, ◌∙◌}
use mir.Val.{bool_byte}

pub told_more : (holds : ℕ → Bool) (told : List ℕ) (i byte : ℕ) (b : Bool) → i < length told → byte ≡ bool_byte b → b ≡ holds i → ((k : ℕ) → k < i → nat_lt 0 (get_or told k 0) ≡ holds k) → (k : ℕ) → k < i + 1 → nat_lt 0 (get_or (set told i byte) k 0) ≡ holds k
told_more holds told i byte b h is same before =
    below_more (λ k. nat_lt 0 (get_or (set told i byte) k 0) ≡ holds k) i
    (λ k l. let apart : k ≢ i = omega arith in rw get_or-set_other (before k l))
    (rw get_or-set_same (ap (nat_lt 0) is ∙ bit b ∙ same))
  where
    bit : (c : Bool) → nat_lt 0 (bool_byte c) ≡ c
    bit true = refl
    bit false = refl
