use Rattle.std.proofs.Common.{ap, arith, drop, get_or, inl, inr, length, length-drop, length-set, length-take, take, min, nat_lt, sym, ◌%◌, ◌&&◌, ◌*◌, ◌+◌, ◌-◌, ◌/◌, ◌<◌, ◌≡◌, ◌≢◌, ◌≤◌, ◌∙◌}
use Rattle.std.proofs.lemmas.Bool.{and_right, cases_lt, le-ltb}
use Rattle.std.proofs.lemmas.List.{get_or-drop, get_or-take}
use Rattle.bw_code.proofs.Parts.{before_part, in_part, part_length}
use Rattle.bw_mask.specs.Masks.{bit_of}
use Rattle.bw_mask.proofs.Bits.{bit_of_zero}
use Rattle.bw_mask.proofs.Views.{past}
use Rattle.bw_file.proofs.WordRows.{below_count, row_elsewhere, row_here}
use Rattle.bw_file.proofs.row_bits.read_rows.Goals as goal
use Rattle.bw_file.proofs.row_bits.read_rows.Goals.{else-n-eq0, then-n-eq0}

pub loop-j-preserved : goal.loop-j-preserved
loop-j-preserved c =
    let at = c.args.at in
    let count = c.args.count in
    let bytes = c.args.bytes.now in
    let j = c.loop-j.j in
    let words = c.loop-j.words in
    let word = c.if-n-eq0.words in
    let n = c.min-n.result in
    let inv = c.loop-j.invariant in
    let size : n ≡ min (count - 64 * j) 64 = omega (arith, c.min-n.ensures, c.saturating_sub.ensures) in
    let there : j < length words = omega (arith, inv.long, c.loop-j-test.true) in
    record {
      long = length-set words j word ∙ inv.long;
      rows = λ i h.
          elim (cases_lt i (64 * j)) [
            | inl before ↦ let far : i / 64 ≢ j = λ e. omega (arith, e, before) in row_elsewhere words j word i far ∙ inv.rows i before
            | inr here ↦
                let is : i / 64 ≡ j = omega (arith, here, h) in
                let row : i % 64 < 64 = omega arith in
                let place : 64 * j + i % 64 ≡ i = omega (arith, is) in
                let bit = bit_of (get_or bytes ((at + i) / 8) 0) ((at + i) % 8) in
                row_here words j word i there is
                ∙ elim c.if-n-eq0.branch [
                  | then-n-eq0 w ↦
                      let past_count : count ≤ i = omega (arith, size, w.if-n-eq0.true, here) in
                      rw w.words-is (bit_of_zero (i % 64)) ∙ sym (and_right bit (nat_lt i count) (le-ltb i count past_count))
                  | else-n-eq0 w ↦
                      let start : at + 64 * j + i % 64 ≡ at + i = omega (arith, place) in
                      rw w.words-is (w.bits_of_rows.ensures (i % 64))
                      ∙ ap (λ m. bit_of (get_or bytes (m / 8) 0) (m % 8) && nat_lt (i % 64) n) start
                      ∙ ap (λ b. bit && b) (below_count count j n (i % 64) size row ∙ ap (λ m. nat_lt m count) place)
                ]
          ];
    }

pub returns : goal.returns
returns c i =
    let count = c.args.count in
    let inv = c.loop-j.invariant in
    let bit = bit_of (get_or c.args.bytes.now ((c.args.at + i) / 8) 0) ((c.args.at + i) % 8) in
    elim (cases_lt i 2048) [
      | inl here ↦ inv.rows i (omega (arith, here, c.loop-j-test.false))
      | inr high ↦ past c.loop-j.words i (omega (arith, inv.long, high)) ∙ sym (and_right bit (nat_lt i count) (le-ltb i count (omega (arith, high, c.requires.few))))
    ]

pub loop-q-preserved : goal.loop-q-preserved
loop-q-preserved c =
    let q = c.loop-q.q in
    let at = c.args.at in
    let bytes = c.args.bytes.now in
    let words = c.loop-q.words in
    let new = c.copy_from_slice.new.self in
    let inv = c.loop-q.invariant in
    let start = 8 * q in
    let n = 8 * q + 8 - 8 * q in
    let low : q < 4 = omega (arith, c.loop-q-test.true) in
    let fits : start + n ≤ length words = omega (arith, inv.long, low) in
    let old_size : length (take n (drop start words)) ≡ n = omega (arith, length-take n (drop start words), length-drop start words, fits) in
    let new_size : length new ≡ n = c.copy_from_slice.ensures.len ∙ old_size in
    record {
      long = part_length start n words new 0 fits new_size ∙ inv.long;
      rows = λ i h.
          elim (cases_lt i (512 * q)) [
            | inl less ↦ ap (λ w. bit_of w (i % 64)) (before_part start n words new 0 fits new_size (i / 64) (omega (arith, less))) ∙ inv.rows i less
            | inr not_less ↦
                let is : q ≡ i / 512 = omega (arith, not_less, h) in
                let word : i / 64 - start ≡ i % 512 / 64 = omega (arith, is) in
                let row : i % 64 ≡ i % 512 % 64 = omega arith in
                let from = at / 8 + 64 * q in
                let m = length bytes - from in
                let byte : from + i % 512 / 8 ≡ (at + i) / 8 = omega (arith, is, c.requires.first) in
                let bit : i % 512 % 8 ≡ (at + i) % 8 = omega (arith, c.requires.first) in
                ap (λ w. bit_of w (i % 64)) (in_part start n words new 0 fits new_size (i / 64) (omega (arith, is)) (omega (arith, is)))
                ∙ ap (λ p. bit_of (get_or new p 0) (i % 64)) word ∙ ap (bit_of (get_or new (i % 512 / 64) 0)) row
                ∙ ap (λ xs. bit_of (get_or xs (i % 512 / 64) 0) (i % 512 % 64)) c.copy_from_slice.ensures.after
                ∙ c.words_in-eight.ensures (i % 512) (omega arith)
                ∙ ap (λ b. bit_of b (i % 512 % 8)) (get_or-take m (drop from bytes) (i % 512 / 8) 0 (omega (arith, c.requires.there, c.requires.first, c.if-count-eq-BLOCK_ROWS.true, low)) ∙ get_or-drop from bytes (i % 512 / 8) 0)
                ∙ ap (λ p. bit_of (get_or bytes p 0) (i % 512 % 8)) byte ∙ ap (bit_of (get_or bytes ((at + i) / 8) 0)) bit
          ];
    }
