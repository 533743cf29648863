use Rattle.std.proofs.Common.{ap, arith, inl, inr, length, nat_lt, refl, sym, ◌%◌, ◌&&◌, ◌*◌, ◌+◌, ◌/◌, ◌<◌, ◌≡◌, ◌≤◌, ◌∙◌}
use Rattle.std.proofs.lemmas.Bool.{cases_lt, le-ltb}
use Rattle.std.proofs.lemmas.List.{get_or-set_other, length-set}
use Rattle.bw_mask.specs.Masks.{bit_of, row_at}
use Rattle.bw_mask.proofs.Bits.{bit_of_zero}
use Rattle.bw_column.proofs.BlockWords.{rows_put, zero_at}
use Rattle.bw_column.proofs.lent_planes.words_of_rows.Goals as goal

pub loop-j-init : goal.loop-j-init
loop-j-init c = record {
  long = refl;
  rows = λ i h. absurd (omega (arith, h));
  rest = λ m h. zero_at 32 m;
}

pub loop-j-preserved : goal.loop-j-preserved
loop-j-preserved c =
    let j = c.loop-j.j in
    let n = c.args.n in
    let at = c.args.at in
    let rows = c.args.mask.now in
    let words = c.loop-j.words in
    let word = c.bits.result in
    let i = c.loop-j.invariant in
    let there : j < length words = omega (arith, i.long, c.loop-j-test.true, c.div_ceil-j-end.ensures, c.requires.block) in
    record {
      long = length-set words j word ∙ i.long;
      rows = rows_put words (λ r. row_at rows (at + r)) j n c.min.result word there c.min.ensures i.rows (λ r.
          let place : at + 64 * j + r ≡ at + (64 * j + r) = omega arith in
          c.bits.ensures r ∙ ap (λ s. nat_lt r c.min.result && row_at rows s) place);
      rest = λ m h. get_or-set_other words j m word 0 (λ e. omega (arith, e, h)) ∙ i.rest m (omega (arith, h));
    }

pub returns : goal.returns
returns c i =
    elim (cases_lt i (64 * c.loop-j.j)) [
      | inl h ↦ c.loop-j.invariant.rows i h
      | inr h ↦
          let past : c.args.n ≤ i = omega (arith, h, c.loop-j-test.false, c.div_ceil-j-end.ensures) in
          ap (λ w. bit_of w (i % 64)) (c.loop-j.invariant.rest (i / 64) (omega (arith, h))) ∙ bit_of_zero (i % 64)
          ∙ sym (ap (λ t. t && row_at c.args.mask.now (c.args.at + i)) (le-ltb i c.args.n past))
    ]

pub overflow_add-at : goal.overflow_add-at
overflow_add-at c = omega (arith, c.requires.few, c.loop-j-test.true, c.div_ceil-j-end.ensures)
