use Rattle.std.proofs.Common.{[], ap, arith, get_or, inl, inr, length, sym, ◌*◌, ◌+◌, ◌<◌, ◌≡◌, ◌∙◌}
use mathlib.Core.Logic.{◌≢◌}
use Rattle.std.proofs.lemmas.Bool.{cases_eq}
use Rattle.bw_vertical.specs.Storage.{lists, planes_in}
use Rattle.bw_vertical.proofs.Growth.{words_kept}
use Rattle.bw_vertical.proofs.Placing.{capacities_more, elsewhere, group_is, here}
use Rattle.bw_vertical.proofs.growing.push_segments.Goals as goal

pub loop-g-preserved : goal.loop-g-preserved
loop-g-preserved c =
    let vs = c.loop-g.groups.items in
    let g = c.loop-g.g in
    let v = c.index_mut-group.result.now in
    let w = c.push_planes.new.group in
    let within : g < length vs = omega arith in
    let read = c.index_mut-group.ensures.value in
    let inv = c.loop-g.invariant in
    let size : length v.items ≡ length (get_or (lists c.args.groups.now.items) g []) = ap length (sym (group_is vs g v within read) ∙ inv.rest g (omega arith)) in
    let wide : length w.items ≡ length v.items + c.args.more * planes_in c.args.k g = c.push_planes.ensures.len ∙ ap (λ m. length v.items + c.args.more * m) c.planes_in.ensures in
    record {
      count = omega arith;
      grown = λ h l m.
          elim (cases_eq h g) [
            | inl e ↦ rw (e, here vs g v w within read) (omega (arith, size, wide))
            | inr d ↦ ap length (elsewhere vs g v w within read h d) ∙ inv.grown h (omega (arith, l, d)) m
          ];
      rest = λ h l. let d : h ≢ g = λ e. omega (arith, l, e) in elsewhere vs g v w within read h d ∙ inv.rest h (omega (arith, l));
      more = λ h. omega (arith, inv.more h, capacities_more vs g v w within read c.push_planes.ensures.capacity h);
      words = λ i n. words_kept vs g v w within read c.push_planes.ensures.words c.args.k i n ∙ inv.words i n;
    }
