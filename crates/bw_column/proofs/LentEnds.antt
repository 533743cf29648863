-- Codes that lie between the ends so far.
use Rattle.std.proofs.Common.{Bool, bit_and, false, nat_eq, nat_le, not, refl, sym, true, ap, ℕ, ◌&&◌, ◌+◌, ◌-◌, ◌<◌, ◌^◌, ◌≡◌, ◌≤◌, ◌∙◌}
use Rattle.std.proofs.lemmas.Bool.{and_parts, both_ways, eqb-true, leb-true, not-false}
use Rattle.bw_mask.specs.Masks.{bit_of}
use Rattle.bw_mask.proofs.Bits.{bit_of_andnot, bit_of_zero}

inside_of : (a b : Bool) → (a && not b) ≡ false → a ≡ true → b ≡ true
inside_of true true none on = refl
inside_of true false none on = absurd (both_ways true none refl)
inside_of false true none on = refl
inside_of false false none on = absurd (both_ways false refl on)

-- each code whose bit is set lies between the ends, where no bit is set of a code that doesn't
pub within : (present inside i low span code : ℕ) → inside < 2 ^ 64 → i < 64 → not (nat_eq (bit_and present (2 ^ 64 - 1 - inside)) 0) ≡ false
    → bit_of inside i ≡ (nat_le low code && nat_le code (low + span)) → bit_of present i ≡ true → (low ≤ code) × (code ≤ low + span)
within present inside i low span code fits less none is on =
    let zero : bit_and present (2 ^ 64 - 1 - inside) ≡ 0 = eqb-true (bit_and present (2 ^ 64 - 1 - inside)) 0 (not-false (nat_eq (bit_and present (2 ^ 64 - 1 - inside)) 0) none) in
    let clear : (bit_of present i && not (bit_of inside i)) ≡ false = sym (bit_of_andnot present inside i fits less) ∙ ap (λ w. bit_of w i) zero ∙ bit_of_zero i in
    let parts = and_parts (nat_le low code) (nat_le code (low + span)) (sym is ∙ inside_of (bit_of present i) (bit_of inside i) clear on) in
    (leb-true low code parts.0, leb-true code (low + span) parts.1)
