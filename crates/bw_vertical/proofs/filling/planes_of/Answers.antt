use Rattle.std.proofs.Common.{[], ap, arith, inl, inr, length, ◌&&◌, ◌-◌, ◌<◌, ◌∙◌}
use Rattle.std.proofs.lemmas.Bool.{cases_eq}
use Rattle.std.proofs.lemmas.List.{get_or-set_other, get_or-set_same, length-set}
use Rattle.bw_lane.proofs.Bits.{all_rows}
use Rattle.bw_mask.specs.Masks.{bit_of, row_in}
use Rattle.bw_vertical.proofs.filling.planes_of.Goals as goal

pub loop-i-preserved : goal.loop-i-preserved
loop-i-preserved c =
    let i = c.loop-i.i in
    let top = c.args.top in
    let planes = c.loop-i.planes in
    let plane = c.lanes_where.result in
    let inside : i < length planes = omega (arith, c.loop-i.invariant.long, c.requires.few, c.loop-i-test.true) in
    record {
      long = length-set planes i plane ∙ c.loop-i.invariant.long;
      done = λ p j low h.
          elim (cases_eq p i) [
            | inl e ↦
                rw e (ap (λ x. row_in x j) (get_or-set_same planes i plane [] inside)
                ∙ c.lanes_where.ensures j h ∙ ap (λ z. z && bit_of c.args.code (top - i)) (all_rows j h))
            | inr d ↦ ap (λ x. row_in x j) (get_or-set_other planes i p plane [] d) ∙ c.loop-i.invariant.done p j (omega (arith, low, d)) h
          ];
    }
