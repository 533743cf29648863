use Rattle.std.proofs.Common.{[], ap, arith, get_or, inl, inr, sym, ◌*◌, ◌+◌, ◌-◌, ◌/◌, ◌≡◌, ◌≤◌, ◌∙◌}
use mathlib.Core.Logic.{◌≢◌}
use Rattle.std.proofs.Math.Nat.{mul-le-mul_right}
use Rattle.std.proofs.lemmas.Bool.{cases_lt}
use Rattle.bw_vertical.specs.Storage.{lists, planes_in, word_of}
use Rattle.bw_vertical.proofs.Placing.{word_past}
use Rattle.bw_vertical.proofs.plane_blocks.take_block.Goals as goal
use Rattle.bw_vertical.proofs.plane_blocks.take_block.Goals.{then-q-s, else-q-s}

pub take_segment-requires-clause-there : goal.take_segment-requires-clause-there
take_segment-requires-clause-there c g h =
    let next : c.args.q + c.segments.s + 1 ≤ c.args.end = omega (arith, c.if-q-s.true) in
    omega (arith, c.requires.sizes g h, mul-le-mul_right (planes_in c.args.k g) next)

pub segments-preserved : goal.segments-preserved
segments-preserved c i w h l =
    let k = c.args.k in
    let q = c.args.q in
    let s = c.segments.s in
    let inv = c.segments.invariant in
    let groups = lists c.args.groups.now in
    elim c.if-q-s.branch [
      | then-q-s t ↦
          let step = t.take_segment.ensures in
          rw t.block-is (
          elim (cases_lt w (4 * s)) [
            | inl p ↦ let far : w / 4 ≢ s = λ e. omega (arith, e, p) in step.others (k - 1 - i) w far ∙ inv i w h p
            | inr p ↦
                let place : 4 * (q + s) + (w - 4 * s) ≡ 4 * q + w = omega (arith, p) in
                let there : w ≡ 4 * s + (w - 4 * s) = omega (arith, p) in
                ap (λ n. get_or (get_or t.take_segment.new.block (k - 1 - i) []) n 0) there
                ∙ step.taken i (w - 4 * s) h (omega (arith, l, p))
                ∙ ap (word_of k groups i) place
          ])
      | else-q-s t ↦
          let step = t.clear_segment.ensures in
          rw t.block-is (
          elim (cases_lt w (4 * s)) [
            | inl p ↦ let far : w / 4 ≢ s = λ e. omega (arith, e, p) in step.others (k - 1 - i) w far ∙ inv i w h p
            | inr p ↦
                let there : w ≡ 4 * s + (w - 4 * s) = omega (arith, p) in
                ap (λ n. get_or (get_or t.clear_segment.new.block (k - 1 - i) []) n 0) there
                ∙ step.cleared (k - 1 - i) (w - 4 * s) (omega (arith, h)) (omega (arith, l, p))
                ∙ sym (word_past k i (4 * q + w) c.args.end groups h c.requires.sizes (omega (arith, p, t.if-q-s.false)))
          ])
    ]
