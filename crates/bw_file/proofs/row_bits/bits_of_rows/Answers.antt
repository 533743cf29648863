use Rattle.std.proofs.Common.{ap, arith, drop, inl, inr, length, ltb, slice_index, sym, take, ◌%◌, ◌&&◌, ◌+◌, ◌-◌, ◌/◌, ◌≡◌, ◌∙◌}
use Rattle.std.proofs.lemmas.Bool.{and_right, cases_lt, le-ltb}
use Rattle.std.proofs.lemmas.List.{get_or-drop, length-drop, take_all}
use Rattle.bw_mask.specs.Masks.{bit_of}
use Rattle.bw_mask.proofs.Bits.{bit_of_and}
use Rattle.bw_file.proofs.row_bits.bits_of_rows.Goals as goal

pub returns : goal.returns
returns c k =
    let present = c.args.bytes.now in
    let first = c.args.at / 8 in
    let bits = c.bits_of_bytes.result in
    let inside = ltb k c.args.count in
    let both = bit_of_and bits c.low_bits.result k ∙ ap (λ b. bit_of bits k && b) (c.low_bits.ensures k) in
    elim (cases_lt k c.args.count) [
      | inl here ↦
          let cut : take (length present - first) (drop first present) ≡ drop first present = take_all (length present - first) (drop first present) (omega (arith, length-drop first present)) in
          let byte : first + k / 8 ≡ (c.args.at + k) / 8 = omega (arith, c.requires.first) in
          let place : k % 8 ≡ (c.args.at + k) % 8 = omega (arith, c.requires.first) in
          let bit = c.bits_of_bytes.ensures k (omega (arith, here, c.requires.few)) (rw cut (omega (arith, here, c.requires.first, c.requires.there, length-drop first present))) in
          both ∙ ap (λ b. b && inside) (bit ∙ ap (λ xs. bit_of (slice_index xs (k / 8)) (k % 8)) cut ∙ ap (λ b. bit_of b (k % 8)) (get_or-drop first present (k / 8) 0 ∙ ap (slice_index present) byte) ∙ ap (bit_of (slice_index present ((c.args.at + k) / 8))) place)
      | inr past ↦ both ∙ and_right (bit_of bits k) inside (le-ltb k c.args.count past) ∙ sym (and_right (bit_of (slice_index present ((c.args.at + k) / 8)) ((c.args.at + k) % 8)) inside (le-ltb k c.args.count past))
    ]
