use Rattle.std.proofs.Common.{arith, ◌∙◌}
use Rattle.bw_mask.specs.Masks.{bit_of, row_in}
use Rattle.bw_mask.proofs.Views.{rows_append}
use Rattle.bw_mask.proofs.mask.Mask.push_bits.Goals as goal

pub returns-clause-rows : goal.returns-clause-rows
returns-clause-rows c =
    let len = c.self.inside.len in
    rw (← c.self.view_is) (
    rows_append len c.args.n (row_in c.self.inside.words.items) (row_in c.put_bits.new.words.items) (bit_of c.args.word)
    (λ j h. c.put_bits.ensures.outside j (λ l. absurd (omega arith)) ∙ c.fill_up.ensures.rows j)
    (λ i h. c.put_bits.ensures.inside i h (omega (arith, c.fill_up.ensures.len))))
