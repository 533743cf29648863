use Rattle.std.proofs.Common.{[], ap, arith, get_or, inl, inr, length, sym, ◌*◌, ◌+◌, ◌<◌, ◌≡◌, ◌≤◌, ◌∙◌}
use Rattle.std.specs.Prelude.{vec_capacity}
use Rattle.std.proofs.lemmas.Bool.{cases_eq}
use Rattle.bw_vertical.specs.Storage.{lists, planes_in}
use Rattle.bw_vertical.proofs.Growth.{lists_kept}
use Rattle.bw_vertical.proofs.Placing.{capacities_more, capacity_here, group_is}
use Rattle.bw_vertical.proofs.growing.reserve_segments.Goals as goal

pub loop-g-preserved : goal.loop-g-preserved
loop-g-preserved c =
    let vs = c.loop-g.groups.items in
    let g = c.loop-g.g in
    let v = c.index_mut-group.result.now in
    let w = c.reserve.new.self in
    let within : g < length vs = omega arith in
    let read = c.index_mut-group.ensures.value in
    let inv = c.loop-g.invariant in
    let size : length (get_or (lists c.args.groups.now.items) g []) ≡ length v.items = ap length (sym (ap (λ gs. get_or gs g []) inv.same) ∙ group_is vs g v within read) in
    let long : length v.items + c.args.more * planes_in c.args.k g ≤ vec_capacity w = rw (← c.planes_in.ensures) (omega (arith, c.in_ok-reserve.ensures.ok)) in
    record {
      count = omega arith;
      same = lists_kept vs g v w within read c.reserve.ensures.items ∙ inv.same;
      more = λ h. omega (arith, inv.more h, capacities_more vs g v w within read c.reserve.ensures.capacity h);
      room = λ h l m.
          elim (cases_eq h g) [
            | inl e ↦ rw (e, capacity_here vs g v w within read, size) long
            | inr d ↦ omega (arith, inv.room h (omega (arith, l, d)) m, capacities_more vs g v w within read c.reserve.ensures.capacity h)
          ];
    }

pub returns-in_err-reserve-clause-same : goal.returns-in_err-reserve-clause-same
returns-in_err-reserve-clause-same c =
    let vs = c.loop-g.groups.items in
    let within : c.loop-g.g < length vs = omega arith in
    lists_kept vs c.loop-g.g c.index_mut-group.result.now c.reserve.new.self within c.index_mut-group.ensures.value c.reserve.ensures.items ∙ c.loop-g.invariant.same

pub returns-in_err-reserve-clause-capacities : goal.returns-in_err-reserve-clause-capacities
returns-in_err-reserve-clause-capacities c h =
    let vs = c.loop-g.groups.items in
    let within : c.loop-g.g < length vs = omega arith in
    omega (arith, c.loop-g.invariant.more h, capacities_more vs c.loop-g.g c.index_mut-group.result.now c.reserve.new.self within c.index_mut-group.ensures.value c.reserve.ensures.capacity h)
