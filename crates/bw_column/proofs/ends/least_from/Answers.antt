use Rattle.std.proofs.Common.{arith, true, ℕ, ◌<◌, ◌≡◌, get_or, sym, ap, min, ◌∙◌}
use Rattle.bw_mask.specs.Masks.{bit_of}
use Rattle.bw_column.proofs.Full.{full}
use Rattle.bw_column.proofs.Extremes.{least_seen, least_skipped}
use Rattle.bw_column.proofs.ends.least_from.Goals as goal
use Rattle.bw_column.proofs.ends.least_from.Goals.{then-has_bit, else-has_bit}

pub loop-i-preserved : goal.loop-i-preserved
loop-i-preserved c =
    let old = c.loop-i.least in
    elim c.if-has_bit.branch [
      | then-has_bit w ↦ least_seen c.args.start c.loop-i.i (bit_of c.args.present) (λ i. get_or c.args.codes.now i 0) old c.min-least.result c.loop-i.invariant (sym c.has_bit.ensures ∙ w.if-has_bit.true) (c.min-least.ensures ∙ ap (min old) w.code-is)
      | else-has_bit w ↦ least_skipped c.args.start c.loop-i.i (bit_of c.args.present) (λ i. get_or c.args.codes.now i 0) old c.min-least.result c.loop-i.invariant (sym c.has_bit.ensures ∙ w.if-has_bit.false) (omega (arith, c.min-least.ensures, w.code-is))
    ]

pub returns-then-present-eq18446744073709551615 : goal.returns-then-present-eq18446744073709551615
returns-then-present-eq18446744073709551615 c =
    let set : (i : ℕ) → i < 64 → bit_of c.args.present i ≡ true = λ i h. ap (λ w. bit_of w i) c.if-present-eq18446744073709551615.true ∙ full i h in
    c.least_of.ensures (bit_of c.args.present) (λ i h. set i (omega (arith, h, c.requires)))
