use Rattle.std.proofs.Common.{Bool, ap, arith, false, get_or, length, ℕ, ◌&&◌, ◌*◌, ◌+◌, ◌/◌, ◌<◌, ◌≤◌, ◌≡◌, ◌∙◌}
use Rattle.std.proofs.lemmas.Bool.{lt-ltb}
use Rattle.std.proofs.lemmas.List.{get_or_past}
use Rattle.bw_mask.specs.Masks.{bit_of, len, row_at, MaskRows}
use Rattle.bw_code.specs.Intervals.{is_in}
use Rattle.bw_code.proofs.BlockLemmas.{rest_at, rows_more, rows_whole}
use Rattle.bw_code.proofs.narrow_codes.rows_in.Goals as goal

pub loop-q-preserved : goal.loop-q-preserved
loop-q-preserved c =
    let need = c.args.need.now in
    let codes = c.args.codes.now in
    let at = 64 * c.loop-q.q in
    let wanted : ℕ → Bool = λ r. row_at need r && is_in c.args.interval (get_or codes r 0) in
    let same_len : len c.loop-q.out ≡ length codes = c.loop-q.invariant.shape.0 ∙ c.requires.out in
    let found : (i : ℕ) → i < 64 → at + i < len c.loop-q.out → bit_of c.chosen-found.result i ≡ wanted (at + i) = λ i h l.
    c.chosen-found.ensures i h ∙ rw (c.bits.ensures i, lt-ltb i 64 h) (ap (λ x. row_at need (at + i) && is_in c.args.interval x) (rest_at codes at i)) in
    let rows = rows_more wanted (row_at c.loop-q.out) (row_at c.put_word.new.self) at (len c.loop-q.out) c.chosen-found.result c.loop-q.invariant.rows c.put_word.ensures.inside c.put_word.ensures.outside found in
    record {
      shape = (c.put_word.ensures.shape.0 ∙ c.loop-q.invariant.shape.0, c.put_word.ensures.shape.1 ∙ c.loop-q.invariant.shape.1);
      rows = λ r h. rows r (omega (arith, h)) (omega (arith, h, same_len, c.loop-q-test.true));
    }

pub returns-clause-rows : goal.returns-clause-rows
returns-clause-rows c =
    let need = c.args.need.now in
    let codes = c.args.codes.now in
    let at = 64 * (length codes / 64) in
    let wanted : ℕ → Bool = λ r. row_at need r && is_in c.args.interval (get_or codes r 0) in
    let same_len : len c.loop-q.out ≡ length codes = c.loop-q.invariant.shape.0 ∙ c.requires.out in
    let before : (r : ℕ) → r < at → row_at c.loop-q.out r ≡ wanted r = λ r h. c.loop-q.invariant.rows r (omega (arith, h, c.loop-q-test.false)) in
    let found : (i : ℕ) → i < 64 → at + i < len c.loop-q.out → bit_of c.chosen-found-2.result i ≡ wanted (at + i) = λ i h l.
    c.chosen-found-2.ensures i h ∙ rw (c.bits-2.ensures i, lt-ltb i 64 h) (ap (λ x. row_at need (at + i) && is_in c.args.interval x) (c.filled_up.ensures i ∙ rest_at codes at i)) in
    let past : (m : MaskRows) → len m ≡ length codes → (r : ℕ) → len c.loop-q.out ≤ r → row_at m r ≡ false = λ m e r h. get_or_past m.rows r false (omega (arith, e, same_len, h)) in
    rows_whole wanted (row_at c.loop-q.out) (row_at c.put_word-2.new.self) at (len c.loop-q.out) c.chosen-found-2.result before c.put_word-2.ensures.inside c.put_word-2.ensures.outside found
    (omega (arith, same_len)) (past c.put_word-2.new.self (c.put_word-2.ensures.shape.0 ∙ same_len))
    (λ r h. ap (λ b. b && is_in c.args.interval (get_or codes r 0)) (past need c.requires.need r h))
