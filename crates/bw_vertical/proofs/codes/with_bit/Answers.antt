use Rattle.std.proofs.Common.{Bool, ap, arith, bit_and, false, not, refl, true, ℕ, ◌%◌, ◌&&◌, ◌*◌, ◌-◌, ◌<◌, ◌^◌, ◌||◌, ◌≡◌, ◌∙◌}
use mathlib.Core.Logic.{◌≢◌}
use mir.Val.{bool_byte}
use Rattle.bw_mask.specs.Masks.{bit_of}
use Rattle.bw_mask.proofs.Bits.{bit_of_andnot, bit_of_or, bit_of_shl, bit_of_zero, one_other}
use Rattle.bw_vertical.proofs.codes.with_bit.Goals as goal

lowest : (b : Bool) → bit_of (bool_byte b) 0 ≡ b
lowest true = refl
lowest false = refl

chosen : (r : ℕ) → r < 64 → bit_of (1 * 2 ^ r % 2 ^ 64) r ≡ true
chosen r h = let none : r - r ≡ 0 = omega arith in bit_of_shl 1 r r (omega arith) h ∙ ap (bit_of 1) none

moved : (b : Bool) (r : ℕ) → r < 64 → bit_of (bool_byte b * 2 ^ r % 2 ^ 64) r ≡ b
moved b r h = let none : r - r ≡ 0 = omega arith in bit_of_shl (bool_byte b) r r (omega arith) h ∙ ap (bit_of (bool_byte b)) none ∙ lowest b

away : (b : Bool) (r s : ℕ) → s < 64 → s ≢ r → bit_of (bool_byte b * 2 ^ r % 2 ^ 64) s ≡ false
away true r s h d = one_other r s h d
away false r s h d = let none : 0 * 2 ^ r % 2 ^ 64 ≡ 0 = omega arith in ap (λ w. bit_of w s) none ∙ bit_of_zero s

cleared : (a b : Bool) → ((a && not true) || b) ≡ b
cleared true b = refl
cleared false b = refl

kept : (a : Bool) → ((a && not false) || false) ≡ a
kept true = refl
kept false = refl

pub returns-clause-same : goal.returns-clause-same
returns-clause-same c =
    let r = c.args.r in
    let word = c.args.word in
    let low : r < 64 = c.requires in
    let one = 1 * 2 ^ r % 2 ^ 64 in
    let fits : 1 * 2 ^ r % 2 ^ 64 < 2 ^ 64 = omega arith in
    bit_of_or (bit_and word (2 ^ 64 - 1 - one)) (c.from.result * 2 ^ r % 2 ^ 64) r
    ∙ ap (λ (b : Bool). b || bit_of (c.from.result * 2 ^ r % 2 ^ 64) r) (bit_of_andnot word one r fits low ∙ ap (λ b. bit_of word r && not b) (chosen r low))
    ∙ cleared (bit_of word r) (bit_of (c.from.result * 2 ^ r % 2 ^ 64) r)
    ∙ ap (λ n. bit_of (n * 2 ^ r % 2 ^ 64) r) c.from.ensures ∙ moved c.args.bit r low

pub returns-clause-other : goal.returns-clause-other
returns-clause-other c s h d =
    let r = c.args.r in
    let word = c.args.word in
    let one = 1 * 2 ^ r % 2 ^ 64 in
    let fits : 1 * 2 ^ r % 2 ^ 64 < 2 ^ 64 = omega arith in
    bit_of_or (bit_and word (2 ^ 64 - 1 - one)) (c.from.result * 2 ^ r % 2 ^ 64) s
    ∙ ap (λ (b : Bool). b || bit_of (c.from.result * 2 ^ r % 2 ^ 64) s) (bit_of_andnot word one s fits h ∙ ap (λ b. bit_of word s && not b) (one_other r s h d))
    ∙ ap (λ (b : Bool). (bit_of word s && not false) || b) (ap (λ n. bit_of (n * 2 ^ r % 2 ^ 64) s) c.from.ensures ∙ away c.args.bit r s h d)
    ∙ kept (bit_of word s)
