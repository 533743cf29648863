use Rattle.std.proofs.Common.{arith, sym, ◌+◌, ◌<◌, ◌∙◌}
use Rattle.bw_mask.specs.Masks.{row_in}
use Rattle.bw_mask.proofs.Views.{rows_at, rows_clean, rows_len}
use Rattle.bw_mask.proofs.mask.Mask.put_bits.Goals as goal

pub invariant_of-self : goal.invariant_of-self
invariant_of-self c = record {
  count = omega (arith, c.put_bits.ensures.len, c.self.invariant.count);
  clean = λ j h. c.put_bits.ensures.outside j (λ l. omega arith) ∙ c.self.invariant.clean j h;
  small = c.self.invariant.small;
}

pub returns-clause-inside : goal.returns-clause-inside
returns-clause-inside c i h l =
    let low : c.args.at + i < c.self.inside.len = grind (arith, rows_len) in
    rows_at c.self.inside.len (row_in c.put_bits.new.words.items) (c.args.at + i) low ∙ c.put_bits.ensures.inside i (omega arith) (omega (arith, c.self.invariant.count))

pub returns-clause-outside : goal.returns-clause-outside
returns-clause-outside c j away =
    rw (← c.self.view_is) (
    rows_clean c.self.inside.len (row_in c.put_bits.new.words.items) (λ i h. c.put_bits.ensures.outside i (λ l. omega arith) ∙ c.self.invariant.clean i h) j
    ∙ c.put_bits.ensures.outside j (λ l. omega (arith, away l))
    ∙ sym (rows_clean c.self.inside.len (row_in c.self.inside.words.items) c.self.invariant.clean j))
