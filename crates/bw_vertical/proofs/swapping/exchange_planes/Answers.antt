use Rattle.std.proofs.Common.{[], ap, arith, get_or, inl, inr, length, set, ℕ, ◌+◌, ◌<◌, ◌∙◌, ◌≡◌}
use mathlib.Core.Logic.{◌≢◌}
use Rattle.std.specs.Prelude.{if◌then◌else◌}
use Rattle.std.proofs.lemmas.Bool.{cases_eq}
use Rattle.std.proofs.lemmas.List.{get_or_read, get_or-set_other, get_or-set_same}
use Rattle.bw_mask.specs.Masks.{row_in}
use Rattle.bw_vertical.proofs.swapping.exchange_planes.Goals as goal

pub loop-i-preserved : goal.loop-i-preserved
loop-i-preserved c =
    let inv = c.loop-i.invariant in
    let i = c.loop-i.i in
    let at = c.args.from + i in
    let rows = c.args.rows.now in
    let us = c.loop-i.group.items in
    let them = c.loop-i.others.items in
    let u = c.exchange_lanes.new.plane in
    let t = c.exchange_lanes.new.other in
    let inside : at < length us = omega (arith, inv.len, c.requires.planes, c.loop-i-test.true) in
    let inside_other : at < length them = omega (arith, inv.other_len, c.requires.other_planes, c.loop-i-test.true) in
    let here : get_or (set us at u) at [] ≡ u = get_or-set_same us at u [] inside in
    let there : get_or (set them at t) at [] ≡ t = get_or-set_same them at t [] inside_other in
    let away : (b : ℕ) → b ≢ at → get_or (set us at u) b [] ≡ get_or us b [] = λ b d. get_or-set_other us at b u [] d in
    let other_away : (b : ℕ) → b ≢ at → get_or (set them at t) b [] ≡ get_or them b [] = λ b d. get_or-set_other them at b t [] d in
    let was : c.index_mut-plane.result.now ≡ get_or c.args.group.now.items at [] = get_or_read us at c.index_mut-plane.result.now inside c.index_mut-plane.ensures.value [] ∙ inv.rest at (omega arith) in
    let other_was : c.index_mut-other.result.now ≡ get_or c.args.others.now.items at [] = get_or_read them at c.index_mut-other.result.now inside_other c.index_mut-other.ensures.value [] ∙ inv.other_rest at (omega arith) in
    record {
      len = omega (arith, inv.len);
      other_len = omega (arith, inv.other_len);
      capacity = inv.capacity;
      other_capacity = inv.other_capacity;
      own = λ p j low h.
          elim (cases_eq p i) [
            | inl e ↦
                rw e (ap (λ x. row_in x j) here ∙ c.exchange_lanes.ensures.own j h
                ∙ ap (λ x. if row_in rows j then row_in x j else row_in c.index_mut-plane.result.now j) other_was
                ∙ ap (λ x. if row_in rows j then row_in (get_or c.args.others.now.items at []) j else row_in x j) was)
            | inr d ↦ ap (λ x. row_in x j) (away (c.args.from + p) (λ e. d (omega (arith, e)))) ∙ inv.own p j (omega (arith, low, d)) h
          ];
      theirs = λ p j low h.
          elim (cases_eq p i) [
            | inl e ↦
                rw e (ap (λ x. row_in x j) there ∙ c.exchange_lanes.ensures.others j h
                ∙ ap (λ x. if row_in rows j then row_in x j else row_in c.index_mut-other.result.now j) was
                ∙ ap (λ x. if row_in rows j then row_in (get_or c.args.group.now.items at []) j else row_in x j) other_was)
            | inr d ↦ ap (λ x. row_in x j) (other_away (c.args.from + p) (λ e. d (omega (arith, e)))) ∙ inv.theirs p j (omega (arith, low, d)) h
          ];
      before = λ b h. away b (λ e. omega (arith, h, e)) ∙ inv.before b h;
      other_before = λ b h. other_away b (λ e. omega (arith, h, e)) ∙ inv.other_before b h;
      rest = λ b h. away b (λ e. omega (arith, h, e)) ∙ inv.rest b (omega (arith, h));
      other_rest = λ b h. other_away b (λ e. omega (arith, h, e)) ∙ inv.other_rest b (omega (arith, h));
    }
