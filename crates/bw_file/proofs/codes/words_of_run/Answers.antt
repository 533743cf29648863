use Rattle.std.proofs.Common.{ap, arith, drop, false, get_or, get_or-set_other, get_or-set_same, inl, inr, length, length-drop, nat_lt, refl, set, slice_index, subst, sym, take, ℕ, ◌%◌, ◌&&◌, ◌*◌, ◌+◌, ◌-◌, ◌/◌, ◌<◌, ◌==◌, ◌≡◌, ◌≢◌, ◌≤◌, ◌^◌, ◌∙◌}
use Rattle.std.proofs.lemmas.Bool.{and_right, cases_eq, cases_lt, le-ltb, lt-ltb}
use Rattle.std.proofs.lemmas.Nat.Bits.{bit_at_above}
use Rattle.bw_mask.proofs.Bits.{and_true}
use Rattle.std.proofs.lemmas.List.{get_or-drop, length-set, take_all}
use Rattle.byteorder.specs.Endian.{little_number}
use Rattle.bw_mask.specs.Masks.{bit_of}
use Rattle.bw_code.proofs.LaneLemmas.{zeros}
use Rattle.bw_file.specs.Planes.{plane_bit}
use Rattle.bw_file.proofs.RowBits.{bit_of_bytes}
use Rattle.bw_file.proofs.codes.words_of_run.Goals as goal

-- a word has no bit from the 64th on
bit_of_past : (word r : ℕ) → word < 2 ^ 64 → 64 ≤ r → bit_of word r ≡ false
bit_of_past word r small past = ap (λ b. b == 1) (bit_at_above word 64 r small past)

pub loop-i-init : goal.loop-i-init
loop-i-init c = record { long = refl; bits = λ p r h. absurd (omega (arith, h)); rest = λ b h. zeros 64 b }

pub loop-i-preserved : goal.loop-i-preserved
loop-i-preserved c =
    let k = c.args.k in
    let size = c.args.size in
    let at = c.args.at in
    let planes = c.args.planes.now in
    let i = c.loop-i.i in
    let words = c.loop-i.words in
    let word = c.read_u64.result in
    let inv = c.loop-i.invariant in
    let low = c.loop-i-test.true in
    let there : k - 1 - i < 64 = omega (arith, c.requires.narrow, low) in
    let start = i * size + at / 8 in
    let part = take (length planes - start) (drop start planes) in
    let cut : part ≡ drop start planes = take_all (length planes - start) (drop start planes) (omega (arith, length-drop start planes)) in
    let small : (j : ℕ) → slice_index (drop start planes) j < 256 = λ j. subst (λ x. x < 256) (sym (get_or-drop start planes j 0)) (omega (arith, c.type_inv.planes (start + j))) in
    record {
      long = length-set words (k - 1 - i) word ∙ inv.long;
      bits = λ p r h.
          elim (cases_eq p i) [
            | inl e ↦
                ap (λ q. bit_of (get_or (set words (k - 1 - i) word) (k - 1 - q) 0) r) e
                ∙ ap (λ w. bit_of w r) (get_or-set_same words (k - 1 - i) word 0 (omega (arith, there, inv.long)))
                ∙ elim (cases_lt r 64) [
                  | inl low ↦
                      let byte : start + r / 8 ≡ i * size + (at + r) / 8 = omega (arith, c.requires.first) in
                      let bit : r % 8 ≡ (at + r) % 8 = omega (arith, c.requires.first) in
                      ap (λ w. bit_of w r) c.read_u64.ensures
                      ∙ ap (λ xs. bit_of (little_number 8 xs) r) cut
                      ∙ bit_of_bytes 8 r (drop start planes) small (omega (arith, low))
                      ∙ ap (λ b. bit_of b (r % 8)) (get_or-drop start planes (r / 8) 0)
                      ∙ ap (λ n. bit_of (get_or planes n 0) (r % 8)) byte
                      ∙ ap (bit_of (get_or planes (i * size + (at + r) / 8) 0)) bit
                      ∙ sym (and_true (plane_bit size planes i (at + r) == 1)) ∙ ap (λ b. (plane_bit size planes i (at + r) == 1) && b) (sym (lt-ltb r 64 low))
                  | inr past ↦
                      bit_of_past word r c.read_u64.type_inv past ∙ sym (and_right (plane_bit size planes i (at + r) == 1) (nat_lt r 64) (le-ltb r 64 past))
                ]
                ∙ ap (λ q. (plane_bit size planes q (at + r) == 1) && nat_lt r 64) (sym e)
            | inr d ↦
                let far : k - 1 - p ≢ k - 1 - i = λ q. d (omega (arith, q, h, low)) in
                ap (λ w. bit_of w r) (get_or-set_other words (k - 1 - i) (k - 1 - p) word 0 far) ∙ inv.bits p r (omega (arith, h, d))
          ];
      rest = λ b h. let far : b ≢ k - 1 - i = λ q. omega (arith, q, h, low) in get_or-set_other words (k - 1 - i) b word 0 far ∙ inv.rest b h;
    }
