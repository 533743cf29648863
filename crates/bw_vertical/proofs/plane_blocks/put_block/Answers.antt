use Rattle.std.proofs.Common.{[], ap, arith, get_or, inl, inr, ◌*◌, ◌+◌, ◌-◌, ◌/◌, ◌≡◌, ◌∙◌}
use mathlib.Core.Logic.{◌≢◌}
use Rattle.std.proofs.lemmas.Bool.{cases_lt}
use Rattle.bw_vertical.specs.Storage.{lists, word_of}
use Rattle.bw_vertical.proofs.Placing.{sizes_more}
use Rattle.bw_vertical.proofs.plane_blocks.put_block.Goals as goal

pub segments-preserved : goal.segments-preserved
segments-preserved c =
    let k = c.args.k in
    let q = c.args.q in
    let s = c.segments.s in
    let inv = c.segments.invariant in
    let step = c.put_segment.ensures in
    record {
      sizes = sizes_more step.sizes inv.sizes;
      put = λ i w h l.
          elim (cases_lt w (4 * s)) [
            | inl p ↦ let far : (4 * q + w) / 4 ≢ q + s = λ e. omega (arith, e, p) in step.other i (4 * q + w) h far ∙ inv.put i w h p
            | inr p ↦
                let place : 4 * q + w ≡ 4 * (q + s) + (w - 4 * s) = omega (arith, p) in
                let there : 4 * s + (w - 4 * s) ≡ w = omega (arith, p) in
                ap (word_of k (lists c.put_segment.new.groups.items) i) place
                ∙ step.put i (w - 4 * s) h (omega (arith, l, p))
                ∙ ap (λ n. get_or (get_or c.args.block.now (k - 1 - i) []) n 0) there
          ];
      other = λ i v h l. let far : v / 4 ≢ q + s = λ e. omega (arith, e, l) in step.other i v h far ∙ inv.other i v h l;
    }
