use Rattle.std.proofs.Common.{arith, inl, inr, sym, ◌+◌, ◌-◌, ◌≤◌, ◌∙◌}
use Rattle.std.proofs.lemmas.Bool.{cases_lt}
use Rattle.bw_mask.proofs.Bits.{bit_above}
use Rattle.bw_code.proofs.Runs.{chosen_from, put_left, run_is}
use Rattle.bw_code.proofs.column.CodeColumn.fill_run.Goals as goal

pub returns-clause-codes : goal.returns-clause-codes
returns-clause-codes g c =
    let at = c.args.at in
    let rows = c.args.rows in
    let old = (g.Self.CodeColumn.seen c.args.self.now).codes in
    let new = (g.Self.CodeColumn.seen c.loop-i.self).codes in
    let done = c.loop-i.invariant in
    run_is old at rows (λ m. c.args.code) new done.long (λ j h.
    elim (cases_lt j (at + 64)) [
      | inl l ↦ done.done j (omega (arith, l, c.loop-i-test.false))
      | inr l ↦
          let from : at ≤ j = omega (arith, l) in
          done.left j (omega (arith, l, c.loop-i-test.false, c.loop-i.auto.i-end)) ∙ sym (put_left old at rows (λ m. c.args.code) j (chosen_from at rows j from ∙ bit_above rows (j - at) c.ranges.rows.fits (omega (arith, l))))
    ])
