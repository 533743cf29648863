use Rattle.std.proofs.Common.{Bool, ap, arith, false, inl, inr, length, refl, sym, ℕ, ◌&&◌, ◌*◌, ◌+◌, ◌<◌, ◌≡◌, ◌≤◌, ◌∙◌}
use Rattle.std.proofs.lemmas.Bool.{cases_lt, lt-ltb}
use Rattle.std.proofs.lemmas.List.{get_or_past}
use Rattle.bw_mask.specs.Masks.{MaskRows, bit_of, len, row_at}
use Rattle.bw_code.proofs.BlockLemmas.{rows_more}
use Rattle.bw_column.specs.Comparisons.{compare_so}
use Rattle.bw_column.specs.Values.{value_at}
use Rattle.bw_column.proofs.column.Column.compare_rows.Goals as goal

pub loop-q-preserved : goal.loop-q-preserved
loop-q-preserved c =
    let need = c.args.need.now in
    let at = 64 * c.loop-q.q in
    let n = length c.args.self.now.values in
    let so : ℕ → Bool = λ i. compare_so c.args.op (value_at c.args.self.now.values i) (value_at c.args.other.now.values i) in
    let wanted : ℕ → Bool = λ i. row_at need i && so i in
    let same : len c.loop-q.out ≡ n = c.loop-q.invariant.shape.0 ∙ c.requires.out in
    let inside : (i : ℕ) → i < 64 → at + i < n → row_at c.put_word.new.self (at + i) ≡ bit_of c.chosen_of_block-found.result i = λ i h l. c.put_word.ensures.inside i h (omega (arith, l, same)) in
    let found : (i : ℕ) → i < 64 → at + i < n → bit_of c.chosen_of_block-found.result i ≡ wanted (at + i) = λ i h l.
    c.chosen_of_block-found.ensures i h l ∙ rw (c.bits-needed.ensures i, lt-ltb i 64 h) refl in
    let past : (m : MaskRows) → len m ≡ n → (i : ℕ) → n ≤ i → row_at m i ≡ false = λ m e i h. get_or_past m.rows i false (omega (arith, e, h)) in
    let more = rows_more wanted (row_at c.loop-q.out) (row_at c.put_word.new.self) at n c.chosen_of_block-found.result c.loop-q.invariant.rows inside c.put_word.ensures.outside found in
    record {
      shape = (c.put_word.ensures.shape.0 ∙ c.loop-q.invariant.shape.0, c.put_word.ensures.shape.1 ∙ c.loop-q.invariant.shape.1);
      rows = λ i h.
          elim (cases_lt i n) [
            | inl l ↦ more i (omega (arith, h)) l
            | inr l ↦ past c.put_word.new.self (c.put_word.ensures.shape.0 ∙ same) i l ∙ sym (ap (λ b. b && so i) (past need c.requires.need i l))
          ];
    }
