use Rattle.std.proofs.Common.{ap, arith, inl, inr, sym, ◌+◌, ◌-◌, ◌≤◌, ◌∙◌}
use Rattle.std.proofs.lemmas.Bool.{cases_lt}
use Rattle.bw_mask.specs.Masks.{bit_of}
use Rattle.bw_mask.proofs.Bits.{bit_below_shl, bit_of_shl, bit_of_shr}
use Rattle.bw_code.proofs.Runs.{chosen_below, chosen_from}
use Rattle.bw_horizontal.proofs.blending.rows_from.Goals as goal

pub returns-then-start-at : goal.returns-then-start-at
returns-then-start-at c r h =
    let at = c.args.at in
    let rows = c.args.rows in
    let start = c.args.start in
    let d = at - start in
    elim (cases_lt r d) [
      | inl l ↦ bit_below_shl rows d r l h ∙ sym (chosen_below at rows (start + r) (omega (arith, l)))
      | inr l ↦
          let up : at ≤ start + r = omega (arith, l) in
          bit_of_shl rows d r l h ∙ ap (bit_of rows) (omega (arith, c.if-start-at.true)) ∙ sym (chosen_from at rows (start + r) up)
    ]

pub returns-else-start-at : goal.returns-else-start-at
returns-else-start-at c r h =
    let at = c.args.at in
    let rows = c.args.rows in
    let start = c.args.start in
    let up : at ≤ start + r = omega (arith, c.if-start-at.false) in
    bit_of_shr rows (start - at) r ∙ ap (bit_of rows) (omega (arith, c.if-start-at.false)) ∙ sym (chosen_from at rows (start + r) up)
