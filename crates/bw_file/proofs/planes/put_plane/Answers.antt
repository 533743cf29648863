use Rattle.std.proofs.Common.{ap, arith, drop, get_or, inl, inr, length, length-drop, length-take, rules, take, ◌%◌, ◌*◌, ◌+◌, ◌-◌, ◌/◌, ◌<◌, ◌≡◌, ◌≤◌, ◌∙◌}
use Rattle.std.proofs.lemmas.Bool.{cases_lt}
use Rattle.std.proofs.lemmas.List.{get_or-drop, get_or-take}
use Rattle.bw_mask.specs.Masks.{bit_of}
use Rattle.bw_code.proofs.Parts.{before_part, in_part, part_length}
use Rattle.bw_file.proofs.planes.put_plane.Goals as goal

pub loop-j-preserved : goal.loop-j-preserved
loop-j-preserved c =
    let j = c.loop-j.j in
    let out = c.loop-j.out in
    let new = c.put_word.new.out in
    let inv = c.loop-j.invariant in
    let start = 8 * j in
    let n = c.min-end.result - 8 * j in
    let end = c.min-end.ensures in
    let low = c.loop-j-test.true in
    let before : start < length out = omega (arith, low, inv.len, c.div_ceil-j-end.ensures) in
    let fits : start + n ≤ length out = omega (arith, end, before) in
    let old_size : length (take n (drop start out)) ≡ n = omega (arith, length-take n (drop start out), length-drop start out, fits) in
    let new_size : length new ≡ n = c.put_word.ensures.len ∙ old_size in
    record {
      len = part_length start n out new 0 fits new_size ∙ inv.len;
      bits = λ i h l.
          let there : i / 8 < length out = omega (arith, l, part_length start n out new 0 fits new_size) in
          elim (cases_lt (i / 64) j) [
            | inl less ↦
                ap (λ b. bit_of b (i % 8)) (before_part start n out new 0 fits new_size (i / 8) (omega (arith, less))) ∙ inv.bits i less there
            | inr not_less ↦
                let is : j ≡ i / 64 = omega (arith, not_less, h) in
                let byte : i / 8 - start ≡ i % 64 / 8 = omega (arith, is) in
                let bit : i % 8 ≡ i % 64 % 8 = omega arith in
                let inside : i / 8 < start + n = omega (arith, end, there, is) in
                let in_new : i % 64 / 8 < length (take n (drop start out)) = omega (arith, old_size, inside, is) in
                ap (λ b. bit_of b (i % 8)) (in_part start n out new 0 fits new_size (i / 8) (omega (arith, is)) inside)
                ∙ ap (λ q. bit_of (get_or new q 0) (i % 8)) byte ∙ ap (bit_of (get_or new (i % 64 / 8) 0)) bit
                ∙ c.put_word.ensures.bits (i % 64) in_new ∙ ap (λ w. bit_of (get_or c.args.words.now w 0) (i % 64)) is
          ];
    }

pub loop-q-preserved : goal.loop-q-preserved
loop-q-preserved c =
    let q = c.loop-q.q in
    let out = c.loop-q.out in
    let new = c.copy_from_slice.new.self in
    let inv = c.loop-q.invariant in
    let words = c.args.words.now in
    let long : length words ≡ 32 = search rules in
    let start = 64 * q in
    let n = 64 * q + 64 - 64 * q in
    let low : q < 4 = omega (arith, c.loop-q-test.true) in
    let fits : start + n ≤ length out = omega (arith, inv.len, c.if-out.true, low) in
    let old_size : length (take n (drop start out)) ≡ n = omega (arith, length-take n (drop start out), length-drop start out, fits) in
    let new_size : length new ≡ n = c.copy_from_slice.ensures.len ∙ old_size in
    record {
      len = part_length start n out new 0 fits new_size ∙ inv.len;
      bits = λ i h l.
          let there : i / 8 < length out = omega (arith, l, part_length start n out new 0 fits new_size) in
          elim (cases_lt (i / 512) q) [
            | inl less ↦ ap (λ b. bit_of b (i % 8)) (before_part start n out new 0 fits new_size (i / 8) (omega (arith, less))) ∙ inv.bits i less there
            | inr not_less ↦
                let is : q ≡ i / 512 = omega (arith, not_less, h) in
                let byte : i / 8 - start ≡ i % 512 / 8 = omega (arith, is) in
                let bit : i % 8 ≡ i % 512 % 8 = omega arith in
                let word : 8 * q + i % 512 / 64 ≡ i / 64 = omega (arith, is) in
                let place : i % 512 % 64 ≡ i % 64 = omega arith in
                let m = 32 - 8 * q in
                ap (λ b. bit_of b (i % 8)) (in_part start n out new 0 fits new_size (i / 8) (omega (arith, is)) (omega (arith, is)))
                ∙ ap (λ p. bit_of (get_or new p 0) (i % 8)) byte ∙ ap (bit_of (get_or new (i % 512 / 8) 0)) bit
                ∙ ap (λ xs. bit_of (get_or xs (i % 512 / 8) 0) (i % 512 % 8)) c.copy_from_slice.ensures.after
                ∙ c.bytes_in.ensures (i % 512) (omega arith)
                ∙ ap (λ w. bit_of w (i % 512 % 64)) (get_or-take m (drop (8 * q) words) (i % 512 / 64) 0 (omega (arith, long, low)) ∙ get_or-drop (8 * q) words (i % 512 / 64) 0)
                ∙ ap (λ p. bit_of (get_or words p 0) (i % 512 % 64)) word ∙ ap (bit_of (get_or words (i / 64) 0)) place
          ];
    }
