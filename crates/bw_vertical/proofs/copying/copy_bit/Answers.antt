use Rattle.std.proofs.Common.{[], ap, arith, get_or, inl, inr, length, subst, sym, ℕ, ◌%◌, ◌*◌, ◌+◌, ◌-◌, ◌/◌, ◌<◌, ◌∙◌, ◌≡◌, ◌⊎◌}
use mathlib.Core.Logic.{◌≢◌}
use Rattle.std.specs.Prelude.{if◌then◌else◌, slice_set}
use Rattle.std.proofs.lemmas.Bool.{cases_eq}
use Rattle.std.proofs.lemmas.List.{get_or-set_other, get_or-set_same, length-set}
use Rattle.bw_mask.specs.Masks.{bit_of, row_in}
use Rattle.bw_vertical.specs.Carries.{IsCarry, carried, lane_bit}
use Rattle.bw_vertical.specs.Storage.{code_of, is_set, lists}
use Rattle.bw_vertical.proofs.Placing.{sizes_more}
use Rattle.bw_vertical.proofs.copying.copy_bit.Goals as goal

pub copy_plane-requires-clause-there : goal.copy_plane-requires-clause-there
copy_plane-requires-clause-there c g h = omega (arith, c.requires.there c.loop-s.s (omega arith) g h, c.loop-s.invariant.sizes.sizes g)

pub loop-s-preserved : goal.loop-s-preserved
loop-s-preserved c =
    let inv = c.loop-s.invariant in
    let k = c.args.k in
    let q = c.args.q in
    let b = c.args.b in
    let s = c.loop-s.s in
    let here = k - 1 - b in
    let old = lists c.args.groups.now.items in
    let now = lists c.loop-s.groups.items in
    let others = lists c.args.others.now in
    let own = c.args.own in
    let rows = c.args.rows.now in
    let moved = c.args.moved.now in
    let by = c.args.by in
    let carries = c.loop-s.carries in
    let first = c.args.carries.now in
    let step = c.copy_plane.ensures in
    let next = c.copy_plane.new.carry in
    let inside : s < length carries = omega (arith, inv.long, c.told-carries, c.requires.few, c.loop-s-test.true) in
    let start : (j : ℕ) → j < 256 → IsCarry (get_or first s []) own others moved by (q + s) b j
    → lane_bit (get_or carries s []) j ≡ carried (code_of own others (256 * (q + s) + j)) (if row_in c.lanes_at-moved_lanes.result j then by else 0) b = λ j h is.
    ap (λ x. lane_bit x j) (inv.kept s (omega arith))
    ∙ is ∙ ap (λ r. carried (code_of own others (256 * (q + s) + j)) (if r then by else 0) b) (sym (c.lanes_at-moved_lanes.ensures j h)) in
    let plane : (j : ℕ) → j < 256 → IsCarry (get_or first s []) own others moved by (q + s) b j
    → is_set k (lists c.copy_plane.new.groups.items) here (256 * (q + s) + j)
    ≡ (if row_in rows (256 * (q + s) + j) then bit_of (code_of own others (256 * (q + s) + j) + (if row_in moved (256 * (q + s) + j) then by else 0)) b else is_set k old here (256 * (q + s) + j)) = λ j h is.
    let v = (256 * (q + s) + j) / 64 in
    (rw (c.lanes_at-row_lanes.ensures j h, c.lanes_at-moved_lanes.ensures j h) at (step.plane j h (start j h is)))
    ∙ ap (λ w. if row_in rows (256 * (q + s) + j) then bit_of (code_of own others (256 * (q + s) + j) + (if row_in moved (256 * (q + s) + j) then by else 0)) b else bit_of w ((256 * (q + s) + j) % 64)) (inv.left v (omega arith)) in
    let carry : (j : ℕ) → j < 256 → IsCarry (get_or first s []) own others moved by (q + s) b j → IsCarry next own others moved by (q + s) (b + 1) j = λ j h is.
    step.carry j h (start j h is) ∙ ap (λ r. carried (code_of own others (256 * (q + s) + j)) (if r then by else 0) (b + 1)) (c.lanes_at-moved_lanes.ensures j h) in
    record {
      sizes = sizes_more step.sizes inv.sizes;
      long = length-set carries s next ∙ inv.long;
      done = λ t j to h is.
          elim (cases_eq t s) [
            | inl e ↦
                subst (λ u. IsCarry (get_or first u []) own others moved by (q + u) b j → is_set k (lists c.copy_plane.new.groups.items) here (256 * (q + u) + j)
                ≡ (if row_in rows (256 * (q + u) + j) then bit_of (code_of own others (256 * (q + u) + j) + (if row_in moved (256 * (q + u) + j) then by else 0)) b else is_set k old here (256 * (q + u) + j))) (sym e) (plane j h) is
            | inr d ↦
                let v = (256 * (q + t) + j) / 64 in
                let away : v / 4 ≢ q + s = λ f. d (omega (arith, f, h)) in
                ap (λ w. bit_of w ((256 * (q + t) + j) % 64)) (step.other here v (omega (arith, c.requires.bit)) (inr away)) ∙ inv.done t j (omega (arith, to, d)) h is
          ];
      carry = λ t j to h is.
          elim (cases_eq t s) [
            | inl e ↦
                subst (λ u. IsCarry (get_or first u []) own others moved by (q + u) b j → IsCarry (get_or (slice_set carries s next) u []) own others moved by (q + u) (b + 1) j) (sym e)
                (λ is_s. ap (λ x. lane_bit x j) (get_or-set_same carries s next [] inside) ∙ carry j h is_s) is
            | inr d ↦ ap (λ x. lane_bit x j) (get_or-set_other carries s t next [] d) ∙ inv.carry t j (omega (arith, to, d)) h is
          ];
      left = λ v from. let away : v / 4 ≢ q + s = λ f. omega (arith, from, f) in step.other here v (omega (arith, c.requires.bit)) (inr away) ∙ inv.left v (omega (arith, from));
      kept = λ t from. let away : t ≢ s = λ e. omega (arith, from, e) in get_or-set_other carries s t next [] away ∙ inv.kept t (omega (arith, from));
      other = λ p v low away.
          let far : (p ≢ here) ⊎ (v / 4 ≢ q + s) =
          elim away [
            | inl d ↦ inl d
            | inr side ↦ inr (λ f. elim side [ inl l ↦ omega (arith, l, f) | inr l ↦ omega (arith, l, f) ])
          ] in
          step.other p v low far ∙ inv.other p v low away;
    }
