use Rattle.std.proofs.Common.{Bool, [], ap, arith, get_or, inl, inr, ℕ, ◌*◌, ◌+◌, ◌<◌, ◌∙◌, ◌≤◌}
use Rattle.std.specs.Prelude.{if◌then◌else◌}
use Rattle.std.proofs.Math.Nat.{mul-le-mul_right}
use Rattle.std.proofs.lemmas.Bool.{cases_eq}
use Rattle.bw_mask.specs.Masks.{row_in}
use Rattle.bw_vertical.proofs.filling.fill_segments.Goals as goal

pub fill_planes-requires-clause-planes : goal.fill_planes-requires-clause-planes
fill_planes-requires-clause-planes c =
    let next : c.loop-q.q + 1 ≤ c.args.segments = omega (arith, c.loop-q-test.true) in
    omega (arith, mul-le-mul_right c.args.m next, c.requires.planes, c.loop-q.invariant.len)

pub loop-q-preserved : goal.loop-q-preserved
loop-q-preserved c =
    let inv = c.loop-q.invariant in
    let q = c.loop-q.q in
    let m = c.args.m in
    let rows = c.args.rows.now in
    let bits = c.args.bits.now in
    let step = c.fill_planes.ensures in
    let sooner : (s i : ℕ) → s < q → i < m → s * m + i < q * m = λ s i h l. let next : s + 1 ≤ q = omega (arith, h) in omega (arith, l, mul-le-mul_right m next) in
    record {
      len = omega (arith, step.len, inv.len);
      capacity = step.capacity ∙ inv.capacity;
      filled = λ s i j to low h.
          elim (cases_eq s q) [
            | inl e ↦
                rw e (step.filled i j low h
                ∙ ap (λ (z : Bool). if z then row_in (get_or bits i []) j else row_in (get_or c.loop-q.group.items (q * m + i) []) j) (c.lanes_at-lanes.ensures j h)
                ∙ ap (λ x. if row_in rows (256 * q + j) then row_in (get_or bits i []) j else row_in x j) (inv.rest (q * m + i) (omega arith)))
            | inr d ↦ let sooner_q : s < q = omega (arith, to, d) in ap (λ x. row_in x j) (step.before (s * m + i) (sooner s i sooner_q low)) ∙ inv.filled s i j sooner_q low h
          ];
      rest = λ b h. step.behind b (omega (arith, h)) ∙ inv.rest b (omega (arith, h));
    }
