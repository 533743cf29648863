use Rattle.std.proofs.Common.{ap, arith, drop, false, get_or, inl, inr, length, sym, ℕ, ◌*◌, ◌+◌, ◌/◌, ◌<◌, ◌≡◌, ◌≤◌, ◌∙◌}
use Rattle.std.proofs.lemmas.Bool.{cases_lt}
use Rattle.std.proofs.lemmas.List.{get_or-drop, get_or-take, get_or_past}
use Rattle.bw_mask.specs.Masks.{bit_of, len, row_at}
use Rattle.bw_mask.proofs.Bits.{bit_of_zero}
use Rattle.bw_byteslice.proofs.Words.{word_put}
use Rattle.bw_byteslice.proofs.plane.put_rows.Goals as goal

pub loop-w-preserved : goal.loop-w-preserved
loop-w-preserved c =
    let w = c.loop-w.w in
    let slice = c.args.slice.now in
    let old = c.loop-w.out in
    let kept = c.loop-w.invariant in
    let wanted = λ (j : ℕ). bit_of (get_or slice j 0) c.args.i in
    let more = word_put old c.put_word.new.self wanted w 64 c.word_with_bit.result (omega arith) c.put_word.ensures.shape.0
    (λ j past. ap (λ x. bit_of x c.args.i) (c.requires.clean j (omega (arith, past, kept.shape.0))) ∙ bit_of_zero c.args.i)
    kept.rows (λ r h. c.word_with_bit.ensures r h) c.put_word.ensures.inside c.put_word.ensures.outside in
    record {
      shape = (c.put_word.ensures.shape.0 ∙ kept.shape.0, c.put_word.ensures.shape.1 ∙ kept.shape.1);
      rows = λ j h. more j (omega (arith, h));
    }

pub returns-then-slice-gt0-clause-rows : goal.returns-then-slice-gt0-clause-rows
returns-then-slice-gt0-clause-rows c j =
    let slice = c.args.slice.now in
    let words = length slice / 64 in
    let old = c.loop-w.out in
    let new = c.put_word-then-slice-gt0.new.self in
    let kept = c.loop-w.invariant in
    let put = c.put_word-then-slice-gt0.ensures in
    let wanted = λ (n : ℕ). bit_of (get_or slice n 0) c.args.i in
    let clean = λ (n : ℕ) (past : len old ≤ n). ap (λ x. bit_of x c.args.i) (c.requires.clean n (omega (arith, past, kept.shape.0))) ∙ bit_of_zero c.args.i in
    let bytes : (r : ℕ) → r < 32 → get_or c.bytes_at.result r 0 ≡ get_or slice (64 * words + r) 0 = λ r h.
    let at : 32 * (2 * words) + r ≡ 64 * words + r = omega arith in
    ap (λ xs. get_or xs r 0) c.bytes_at.ensures ∙ get_or-take 32 (drop (32 * (2 * words)) slice) r 0 h ∙ get_or-drop (32 * (2 * words)) slice r 0 ∙ ap (λ n. get_or slice n 0) at in
    let before : (n : ℕ) → n < 64 * words → row_at old n ≡ wanted n = λ n h. kept.rows n (omega (arith, h, c.loop-w-test.false)) in
    elim (cases_lt j (64 * words + 32)) [
      | inl l ↦ word_put old new wanted words 32 c.rows_with_bit-found.result (omega arith) put.shape.0 clean before (λ r h. c.rows_with_bit-found.ensures r h ∙ ap (λ x. bit_of x c.args.i) (bytes r h)) put.inside put.outside j l
      | inr l ↦
          let gone : len old ≤ j = omega (arith, l, kept.shape.0, c.requires.long) in
          get_or_past new.rows j false (omega (arith, gone, put.shape.0)) ∙ sym (clean j gone)
    ]
