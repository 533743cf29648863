use Rattle.std.proofs.Common.{[], ap, arith, get_or, inl, inr, length, set, ℕ, ◌+◌, ◌-◌, ◌<◌, ◌∙◌, ◌≡◌}
use mathlib.Core.Logic.{◌≢◌}
use Rattle.std.specs.Prelude.{if◌then◌else◌}
use Rattle.std.proofs.lemmas.Bool.{cases_eq}
use Rattle.std.proofs.lemmas.List.{get_or_read, get_or-set_other, get_or-set_same}
use Rattle.bw_mask.specs.Masks.{bit_of, row_in}
use Rattle.bw_vertical.specs.Carries.{HoldBits, carried}
use Rattle.bw_vertical.proofs.Adding.{added_bit, next_is, sum_is}
use Rattle.bw_vertical.proofs.shifting.shift_in_group.Goals as goal

pub loop-n-preserved : goal.loop-n-preserved
loop-n-preserved c =
    let inv = c.loop-n.invariant in
    let m = c.args.m in
    let n = c.loop-n.n in
    let top = c.args.top in
    let i = m - 1 - n in
    let at = c.args.from + i in
    let planes = c.loop-n.group.items in
    let plane = c.add_to_plane.new.plane in
    let rows = c.args.rows.now in
    let low = top + 1 - m in
    let y : ℕ → ℕ = λ j. if row_in rows j then c.args.by else 0 in
    let inside : at < length planes = omega (arith, inv.len, c.requires.planes, c.loop-n-test.true) in
    let bit : top - i ≡ low + n = omega (arith, c.requires.top, c.loop-n-test.true) in
    let above : low + n + 1 ≡ low + (n + 1) = omega arith in
    let here : get_or (set planes at plane) at [] ≡ plane = get_or-set_same planes at plane [] inside in
    let elsewhere : (b : ℕ) → b ≢ at → get_or (set planes at plane) b [] ≡ get_or planes b [] = λ b d. get_or-set_other planes at b plane [] d in
    let before : (j x : ℕ) → HoldBits c.args.group.now.items c.args.from m top j x → row_in c.index_mut-plane.result.now j ≡ bit_of x (low + n) = λ j x held.
    ap (λ p. row_in p j) (get_or_read planes at c.index_mut-plane.result.now inside c.index_mut-plane.ensures.value [] ∙ inv.left at (omega (arith, c.loop-n-test.true))) ∙ held i (omega (arith, c.loop-n-test.true)) ∙ ap (bit_of x) bit in
    let added : (j : ℕ) → j < 256 → row_in c.lanes_where.result j ≡ bit_of (y j) (low + n) = λ j h. c.lanes_where.ensures j h ∙ added_bit (row_in rows j) c.args.by (top - i) ∙ ap (bit_of (y j)) bit in
    record {
      len = omega (arith, inv.len);
      capacity = inv.capacity;
      sums = λ j x h held start p from to.
          elim (cases_eq p i) [
            | inl e ↦
                ap (λ r. row_in (get_or (set planes at plane) (c.args.from + r) []) j) e
                ∙ ap (λ r. row_in r j) here
                ∙ sum_is x (y j) (low + n) _ _ _ _ _ (c.add_to_plane.ensures j h) (before j x held) (added j h) (inv.carry j x h held start)
                ∙ ap (bit_of (x + y j)) (omega (arith, e, bit))
            | inr d ↦ ap (λ r. row_in r j) (elsewhere (c.args.from + p) (λ e. d (omega (arith, e)))) ∙ inv.sums j x h held start p (omega (arith, from, d)) to
          ];
      carry = λ j x h held start. next_is x (y j) (low + n) _ _ _ _ _ (c.add_to_plane.ensures j h) (before j x held) (added j h) (inv.carry j x h held start) ∙ ap (carried x (y j)) above;
      left = λ b h. elsewhere b (λ e. omega (arith, h, e)) ∙ inv.left b (omega (arith, h));
      behind = λ b h. elsewhere b (λ e. omega (arith, h, e, c.loop-n-test.true)) ∙ inv.behind b h;
    }
