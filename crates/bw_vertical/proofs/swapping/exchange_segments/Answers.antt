use Rattle.std.proofs.Common.{[], ap, arith, get_or, inl, inr, ℕ, ◌*◌, ◌+◌, ◌<◌, ◌∙◌, ◌≤◌}
use Rattle.std.specs.Prelude.{if◌then◌else◌}
use Rattle.std.proofs.Math.Nat.{mul-le-mul_right}
use Rattle.std.proofs.lemmas.Bool.{cases_eq}
use Rattle.bw_mask.specs.Masks.{row_in}
use Rattle.bw_vertical.proofs.swapping.exchange_segments.Goals as goal

pub exchange_planes-requires-clause-planes : goal.exchange_planes-requires-clause-planes
exchange_planes-requires-clause-planes c =
    let next : c.loop-q.q + 1 ≤ c.args.segments = omega (arith, c.loop-q-test.true) in
    omega (arith, mul-le-mul_right c.args.m next, c.requires.planes, c.loop-q.invariant.len)

pub exchange_planes-requires-clause-other_planes : goal.exchange_planes-requires-clause-other_planes
exchange_planes-requires-clause-other_planes c =
    let next : c.loop-q.q + 1 ≤ c.args.segments = omega (arith, c.loop-q-test.true) in
    omega (arith, mul-le-mul_right c.args.m next, c.requires.other_planes, c.loop-q.invariant.other_len)

pub loop-q-preserved : goal.loop-q-preserved
loop-q-preserved c =
    let inv = c.loop-q.invariant in
    let q = c.loop-q.q in
    let m = c.args.m in
    let rows = c.args.rows.now in
    let us = c.args.group.now.items in
    let them = c.args.others.now.items in
    let step = c.exchange_planes.ensures in
    let sooner : (s i : ℕ) → s < q → i < m → s * m + i < q * m = λ s i h l. let next : s + 1 ≤ q = omega (arith, h) in omega (arith, l, mul-le-mul_right m next) in
    record {
      len = omega (arith, step.len, inv.len);
      other_len = omega (arith, step.other_len, inv.other_len);
      capacity = step.capacity ∙ inv.capacity;
      other_capacity = step.other_capacity ∙ inv.other_capacity;
      own = λ s i j to low h.
          elim (cases_eq s q) [
            | inl e ↦
                rw e (step.own i j low h
                ∙ ap (λ z. if z then row_in (get_or c.loop-q.others.items (q * m + i) []) j else row_in (get_or c.loop-q.group.items (q * m + i) []) j) (c.lanes_at-lanes.ensures j h)
                ∙ ap (λ x. if row_in rows (256 * q + j) then row_in x j else row_in (get_or c.loop-q.group.items (q * m + i) []) j) (inv.other_rest (q * m + i) (omega arith))
                ∙ ap (λ x. if row_in rows (256 * q + j) then row_in (get_or them (q * m + i) []) j else row_in x j) (inv.rest (q * m + i) (omega arith)))
            | inr d ↦ let h2 : s < q = omega (arith, to, d) in ap (λ x. row_in x j) (step.before (s * m + i) (sooner s i h2 low)) ∙ inv.own s i j h2 low h
          ];
      theirs = λ s i j to low h.
          elim (cases_eq s q) [
            | inl e ↦
                rw e (step.others i j low h
                ∙ ap (λ z. if z then row_in (get_or c.loop-q.group.items (q * m + i) []) j else row_in (get_or c.loop-q.others.items (q * m + i) []) j) (c.lanes_at-lanes.ensures j h)
                ∙ ap (λ x. if row_in rows (256 * q + j) then row_in x j else row_in (get_or c.loop-q.others.items (q * m + i) []) j) (inv.rest (q * m + i) (omega arith))
                ∙ ap (λ x. if row_in rows (256 * q + j) then row_in (get_or us (q * m + i) []) j else row_in x j) (inv.other_rest (q * m + i) (omega arith)))
            | inr d ↦ let h2 : s < q = omega (arith, to, d) in ap (λ x. row_in x j) (step.other_before (s * m + i) (sooner s i h2 low)) ∙ inv.theirs s i j h2 low h
          ];
      rest = λ b h. step.behind b (omega (arith, h)) ∙ inv.rest b (omega (arith, h));
      other_rest = λ b h. step.other_behind b (omega (arith, h)) ∙ inv.other_rest b (omega (arith, h));
    }
