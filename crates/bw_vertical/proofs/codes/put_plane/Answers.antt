use Rattle.std.proofs.Common.{ap, arith, false, get_or, inl, inr, subst, sym, ℕ, ◌%◌, ◌*◌, ◌+◌, ◌-◌, ◌/◌, ◌<◌, ◌≡◌, ◌∙◌}
use Rattle.std.proofs.lemmas.Bool.{cases_lt}
use Rattle.std.proofs.lemmas.List.{get_or_past}
use Rattle.bw_mask.specs.Masks.{bit_of, len, row_at, row_in}
use Rattle.bw_vertical.specs.Storage.{is_set, lists, plane_at}
use Rattle.bw_vertical.proofs.codes.put_plane.Goals as goal

pub loop-q-preserved : goal.loop-q-preserved
loop-q-preserved c =
    let k = c.args.k in
    let p = k - 1 - c.args.i in
    let gs = lists c.args.groups.now in
    let q = c.loop-q.q in
    let inv = c.loop-q.invariant in
    let same_len : len c.loop-q.out ≡ c.args.len = inv.shape.0 ∙ c.requires.out in
    let found : (r : ℕ) → r < 256 → row_in (plane_at k gs q p) r ≡ is_set k gs p (256 * q + r) = λ r h.
    let segment : (256 * q + r) / 64 / 4 ≡ q = omega (arith, h) in
    let lane : (256 * q + r) / 64 % 4 ≡ r / 64 = omega (arith, h) in
    let bit : (256 * q + r) % 64 ≡ r % 64 = omega (arith, h) in
    sym (ap (λ s. bit_of (get_or (plane_at k gs s p) ((256 * q + r) / 64 % 4) 0) ((256 * q + r) % 64)) segment
    ∙ ap (λ n. bit_of (get_or (plane_at k gs q p) n 0) ((256 * q + r) % 64)) lane
    ∙ ap (bit_of (get_or (plane_at k gs q p) (r / 64) 0)) bit) in
    record {
      shape = (c.put_lanes.ensures.shape.0 ∙ inv.shape.0, c.put_lanes.ensures.shape.1 ∙ inv.shape.1);
      rows = λ j h l.
          elim (cases_lt j (256 * q)) [
            | inl before ↦ c.put_lanes.ensures.before j before ∙ inv.rows j before l
            | inr from ↦
                let r = j - 256 * q in
                let within : r < 256 = omega (arith, h, from) in
                let at : 256 * q + r ≡ j = omega (arith, from) in
                let put = c.put_lanes.ensures.inside r within (omega (arith, l, at, same_len)) ∙ ap (λ lanes. row_in lanes r) c.plane_at.ensures ∙ found r within in
                subst (λ n. row_at c.put_lanes.new.out n ≡ is_set k gs p n) at put
          ];
    }

pub returns-clause-rows : goal.returns-clause-rows
returns-clause-rows c j =
    let same_len : len c.loop-q.out ≡ c.args.len = c.loop-q.invariant.shape.0 ∙ c.requires.out in
    elim (cases_lt j c.args.len) [
      | inl h ↦ c.loop-q.invariant.rows j (omega (arith, h, c.loop-q-test.false)) h
      | inr h ↦ get_or_past c.loop-q.out.rows j false (omega (arith, h, same_len)) ∙ sym (c.requires.planes.clean (c.args.k - 1 - c.args.i) j (omega arith) h)
    ]
