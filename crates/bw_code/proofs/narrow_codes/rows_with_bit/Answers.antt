use Rattle.std.proofs.Common.{Bool, ap, arith, false, get_or, length, ℕ, ◌*◌, ◌+◌, ◌/◌, ◌<◌, ◌==◌, ◌≡◌, ◌∙◌}
use Rattle.std.proofs.lemmas.List.{get_or_past}
use Rattle.std.proofs.lemmas.Nat.Bits.{bit_at-zero}
use Rattle.bw_mask.specs.Masks.{bit_of, len, row_at}
use Rattle.bw_code.proofs.BlockLemmas.{rest_at, rows_more, rows_whole}
use Rattle.bw_code.proofs.narrow_codes.rows_with_bit.Goals as goal

pub loop-q-preserved : goal.loop-q-preserved
loop-q-preserved c =
    let codes = c.args.codes.now in
    let at = 64 * c.loop-q.q in
    let wanted : ℕ → Bool = λ r. bit_of (get_or codes r 0) c.args.i in
    let same_len : len c.loop-q.out ≡ length codes = c.loop-q.invariant.shape.0 ∙ c.requires.out in
    let found : (i : ℕ) → i < 64 → at + i < len c.loop-q.out → bit_of c.rows_with_bit.result i ≡ wanted (at + i) = λ i h l. c.rows_with_bit.ensures i h ∙ ap (λ x. bit_of x c.args.i) (rest_at codes at i) in
    let rows = rows_more wanted (row_at c.loop-q.out) (row_at c.put_word.new.self) at (len c.loop-q.out) c.rows_with_bit.result c.loop-q.invariant.rows c.put_word.ensures.inside c.put_word.ensures.outside found in
    record {
      shape = (c.put_word.ensures.shape.0 ∙ c.loop-q.invariant.shape.0, c.put_word.ensures.shape.1 ∙ c.loop-q.invariant.shape.1);
      rows = λ r h. rows r (omega (arith, h)) (omega (arith, h, same_len, c.loop-q-test.true));
    }

pub returns-clause-rows : goal.returns-clause-rows
returns-clause-rows c =
    let codes = c.args.codes.now in
    let at = 64 * (length codes / 64) in
    let wanted : ℕ → Bool = λ r. bit_of (get_or codes r 0) c.args.i in
    let same_len : len c.loop-q.out ≡ length codes = c.loop-q.invariant.shape.0 ∙ c.requires.out in
    let before : (r : ℕ) → r < at → row_at c.loop-q.out r ≡ wanted r = λ r h. c.loop-q.invariant.rows r (omega (arith, h, c.loop-q-test.false)) in
    let found : (i : ℕ) → i < 64 → at + i < len c.loop-q.out → bit_of c.rows_with_bit-2.result i ≡ wanted (at + i) = λ i h l.
    c.rows_with_bit-2.ensures i h ∙ ap (λ x. bit_of x c.args.i) (c.filled_up-rest.ensures i ∙ rest_at codes at i) in
    rows_whole wanted (row_at c.loop-q.out) (row_at c.put_word-2.new.self) at (len c.loop-q.out) c.rows_with_bit-2.result before c.put_word-2.ensures.inside c.put_word-2.ensures.outside found
    (omega (arith, same_len)) (λ r h. get_or_past c.put_word-2.new.self.rows r false (omega (arith, h, c.put_word-2.ensures.shape.0)))
    (λ r h. ap (λ x. bit_of x c.args.i) (get_or_past codes r 0 (omega (arith, h, same_len))) ∙ ap (λ x. x == 1) (bit_at-zero c.args.i))
