use Rattle.std.proofs.Common.{ap, arith, get_or, inl, inr, nat_lt, refl, set, sym, ◌%◌, ◌&&◌, ◌*◌, ◌+◌, ◌-◌, ◌/◌, ◌<◌, ◌==◌, ◌≡◌, ◌≢◌, ◌∙◌, get_or-set_other, get_or-set_same}
use Rattle.std.proofs.lemmas.Bool.{cases_eq}
use Rattle.std.proofs.lemmas.List.{length-set}
use Rattle.bw_mask.specs.Masks.{bit_of}
use Rattle.bw_code.proofs.LaneLemmas.{zeros}
use Rattle.bw_file.specs.Planes.{plane_bit}
use Rattle.bw_file.proofs.codes.words_at.Goals as goal

pub loop-i-init : goal.loop-i-init
loop-i-init c = record { long = refl; bits = λ p r h. absurd (omega (arith, h)); rest = λ b h. zeros 64 b }

pub loop-i-preserved : goal.loop-i-preserved
loop-i-preserved c =
    let k = c.args.k in
    let size = c.args.size in
    let at = c.args.at in
    let planes = c.args.planes.now in
    let i = c.loop-i.i in
    let words = c.loop-i.words in
    let word = c.bits_of_rows.result in
    let inv = c.loop-i.invariant in
    let there : k - 1 - i < 64 = omega (arith, c.requires.narrow, c.loop-i-test.true) in
    record {
      long = length-set words (k - 1 - i) word ∙ inv.long;
      bits = λ p r h.
          elim (cases_eq p i) [
            | inl e ↦
                let byte : (8 * (i * size) + at + r) / 8 ≡ i * size + (at + r) / 8 = omega arith in
                let place : (8 * (i * size) + at + r) % 8 ≡ (at + r) % 8 = omega arith in
                ap (λ q. bit_of (get_or (set words (k - 1 - i) word) (k - 1 - q) 0) r) e
                ∙ ap (λ w. bit_of w r) (get_or-set_same words (k - 1 - i) word 0 (omega (arith, there, inv.long)))
                ∙ c.bits_of_rows.ensures r
                ∙ ap (λ n. bit_of (get_or planes n 0) ((8 * (i * size) + at + r) % 8) && nat_lt r c.args.count) byte
                ∙ ap (λ n. bit_of (get_or planes (i * size + (at + r) / 8) 0) n && nat_lt r c.args.count) place
                ∙ ap (λ q. (plane_bit size planes q (at + r) == 1) && nat_lt r c.args.count) (sym e)
            | inr d ↦
                let far : k - 1 - p ≢ k - 1 - i = λ q. d (omega (arith, q, h, c.loop-i-test.true)) in
                ap (λ w. bit_of w r) (get_or-set_other words (k - 1 - i) (k - 1 - p) word 0 far) ∙ inv.bits p r (omega (arith, h, d))
          ];
      rest = λ b h. let far : b ≢ k - 1 - i = λ q. omega (arith, q, h, c.loop-i-test.true) in get_or-set_other words (k - 1 - i) b word 0 far ∙ inv.rest b h;
    }

pub returns-then-count-eq64-clause-bits : goal.returns-then-count-eq64-clause-bits
returns-then-count-eq64-clause-bits c b r h =
    c.words_of_run.ensures.bits b r h ∙ ap (λ n. (plane_bit c.args.size c.args.planes.now (c.args.k - 1 - b) (c.args.at + r) == 1) && nat_lt r n) (sym c.if-count-eq64.true)
