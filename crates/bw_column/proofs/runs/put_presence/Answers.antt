use Rattle.std.proofs.Common.{ap, arith, inl, inr, refl, sym, ◌+◌, ◌-◌, ◌<◌, ◌≡◌, ◌∙◌}
use Rattle.std.proofs.lemmas.Bool.{cases_lt, lt-ltb}
use Rattle.bw_mask.specs.Masks.{bit_of, row_at}
use Rattle.bw_code.proofs.Runs.{chosen_below, chosen_from}
use Rattle.bw_vertical.proofs.Blends.{blended_bit}
use Rattle.bw_column.proofs.runs.put_presence.Goals as goal

pub returns-clause-rows : goal.returns-clause-rows
returns-clause-rows c j =
    let at = c.args.at in
    let n = c.args.n in
    let rows = c.args.rows in
    let own = c.bits-own.result in
    let old = c.args.nonnull.now in
    elim (cases_lt j at) [
      | inl below ↦ c.put_bits.ensures.outside j (λ h. absurd (omega (arith, h, below))) ∙ rw (chosen_below at rows j below) refl
      | inr from ↦
          elim (cases_lt j (at + n)) [
            | inl to ↦
                let i = j - at in
                let low : i < n = omega (arith, to, from) in
                let here : at + i ≡ j = omega (arith, from) in
                let kept : bit_of own i ≡ row_at old j = c.bits-own.ensures i ∙ rw (lt-ltb i n low, here) refl in
                ap (row_at c.put_bits.new.self) (sym here)
                ∙ c.put_bits.ensures.inside i low (omega (arith, low, c.requires.inside))
                ∙ blended_bit rows c.args.present own i c.ranges.rows.fits (omega (arith, low, c.requires.few))
                ∙ rw (chosen_from at rows j from, kept) refl
            | inr past ↦ c.put_bits.ensures.outside j (λ _. past) ∙ rw (chosen_from at rows j from ∙ c.requires.given (j - at) (omega (arith, past))) refl
          ]
    ]
