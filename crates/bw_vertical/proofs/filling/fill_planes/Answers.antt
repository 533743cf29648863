use Rattle.std.proofs.Common.{[], ap, arith, get_or, inl, inr, length, set, ℕ, ◌+◌, ◌<◌, ◌∙◌, ◌≡◌}
use mathlib.Core.Logic.{◌≢◌}
use Rattle.std.specs.Prelude.{if◌then◌else◌}
use Rattle.std.proofs.lemmas.Bool.{cases_eq}
use Rattle.std.proofs.lemmas.List.{get_or_read, get_or-set_other, get_or-set_same}
use Rattle.bw_mask.specs.Masks.{row_in}
use Rattle.bw_vertical.proofs.filling.fill_planes.Goals as goal

pub loop-i-preserved : goal.loop-i-preserved
loop-i-preserved c =
    let inv = c.loop-i.invariant in
    let i = c.loop-i.i in
    let at = c.args.from + i in
    let rows = c.args.rows.now in
    let us = c.loop-i.group.items in
    let u = c.blend_lanes.new.plane in
    let inside : at < length us = omega (arith, inv.len, c.requires.planes, c.loop-i-test.true) in
    let here : get_or (set us at u) at [] ≡ u = get_or-set_same us at u [] inside in
    let away : (b : ℕ) → b ≢ at → get_or (set us at u) b [] ≡ get_or us b [] = λ b d. get_or-set_other us at b u [] d in
    let was : c.index_mut-plane.result.now ≡ get_or c.args.group.now.items at [] = get_or_read us at c.index_mut-plane.result.now inside c.index_mut-plane.ensures.value [] ∙ inv.rest at (omega arith) in
    record {
      len = omega (arith, inv.len);
      capacity = inv.capacity;
      filled = λ p j low h.
          elim (cases_eq p i) [
            | inl e ↦
                rw e (ap (λ x. row_in x j) here ∙ c.blend_lanes.ensures j h
                ∙ ap (λ x. if row_in rows j then row_in (get_or c.args.bits.now i []) j else row_in x j) was)
            | inr d ↦ ap (λ x. row_in x j) (away (c.args.from + p) (λ e. d (omega (arith, e)))) ∙ inv.filled p j (omega (arith, low, d)) h
          ];
      before = λ b h. away b (λ e. omega (arith, h, e)) ∙ inv.before b h;
      rest = λ b h. away b (λ e. omega (arith, h, e)) ∙ inv.rest b (omega (arith, h));
    }
