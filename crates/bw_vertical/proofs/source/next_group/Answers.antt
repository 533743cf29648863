use Rattle.std.proofs.Common.{[], ap, arith, drop, get_or, sym, ◌*◌, ◌+◌, ◌-◌, ◌/◌, ◌<◌, ◌≡◌, ◌≤◌, ◌∙◌}
use Rattle.std.proofs.lemmas.List.{get_or-drop, get_or-take, length-drop, length-take}
use Rattle.std.proofs.Math.Nat.{mul-le-mul_left}
use Rattle.bw_vertical.specs.Storage.{lists, planes_in}
use Rattle.bw_vertical.proofs.Ahead.{first_ahead, group_holds, more_ahead}
use Rattle.bw_vertical.proofs.Placing.{side_by_side}
use Rattle.bw_vertical.proofs.source.next_group.Goals as goal

pub slice_bounds-result-end-2 : goal.slice_bounds-result-end-2
slice_bounds-result-end-2 c = let held = group_holds c.args.k c.args.from.left c.args.groups.now c.args.from.behind.now c.requires.left c.requires.within c.requires.count c.requires.ahead c.index-from-0.result c.args.from.segment c.min-m.result c.deref.result.now c.index-from-0.is (c.deref.ensures.value ∙ sym (ap (λ v. v.items) c.index-from-0.is)) c.min-m.ensures c.requires.there in search

pub returns-clause-count : goal.returns-clause-count
returns-clause-count c =
    let q = c.args.from.segment in
    let m = c.min-m.result in
    let held = group_holds c.args.k c.args.from.left c.args.groups.now c.args.from.behind.now c.requires.left c.requires.within c.requires.count c.requires.ahead c.index-from-0.result c.args.from.segment c.min-m.result c.deref.result.now c.index-from-0.is (c.deref.ensures.value ∙ sym (ap (λ v. v.items) c.index-from-0.is)) c.min-m.ensures c.requires.there in
    omega (arith, held, c.min-m.ensures, length-take (q * m + m - q * m) (drop (q * m) c.deref.result.now), length-drop (q * m) c.deref.result.now)

pub returns-clause-stands : goal.returns-clause-stands
returns-clause-stands c =
    let k = c.args.k in
    let q = c.args.from.segment in
    let left = c.args.from.left in
    let m = c.min-m.result in
    let planes = c.deref.result.now in
    let r = c.requires in
    let cut = length-take (q * m + m - q * m) (drop (q * m) planes) in
    let rest = length-drop (q * m) planes in
    let held = group_holds c.args.k c.args.from.left c.args.groups.now c.args.from.behind.now c.requires.left c.requires.within c.requires.count c.requires.ahead c.index-from-0.result c.args.from.segment c.min-m.result c.deref.result.now c.index-from-0.is (c.deref.ensures.value ∙ sym (ap (λ v. v.items) c.index-from-0.is)) c.min-m.ensures c.requires.there in
    record {
      start_is = r.start;
      small = omega (arith, r.start, r.small, mul-le-mul_left q r.narrow);
      within = omega (arith, r.within);
      ahead = λ more. more_ahead k left c.args.groups.now c.args.from.behind.now r.left r.within r.count r.ahead m c.min-m.ensures more;
      units = λ i h.
          let g = (k - left) / 4 in
          let gs = lists c.args.groups.now in
          let some : 4 * g < k = omega (arith, r.ahead.whole, r.left, r.within) in
          let m_is : planes_in k g ≡ m = omega (arith, c.min-m.ensures, r.ahead.whole, r.left, r.within) in
          let group : get_or gs g [] ≡ planes = first_ahead k left c.args.groups.now c.args.from.behind.now r.left r.within r.count r.ahead c.index-from-0.result c.index-from-0.is ∙ ap (λ v. v.items) c.index-from-0.is ∙ sym c.deref.ensures.value in
          let u = c.args.i + i in
          let low : i < q * m + m - q * m = omega (arith, h, cut) in
          let first : q * k + 4 * g ≤ u = omega (arith, r.start, r.unit, r.ahead.whole, r.within) in
          let last : u < q * k + 4 * g + planes_in k g = omega (arith, low, r.start, r.unit, r.ahead.whole, r.within, m_is) in
          let place : q * planes_in k g + (u - (q * k + 4 * g)) ≡ q * m + i =
          ap (λ n. q * n + (u - (q * k + 4 * g))) m_is ∙ ap (λ j. q * m + j) (omega (arith, r.start, r.unit, r.ahead.whole, r.within)) in
          get_or-take (q * m + m - q * m) (drop (q * m) planes) i [] low
          ∙ get_or-drop (q * m) planes i []
          ∙ ap (λ n. get_or planes n []) (sym place)
          ∙ ap (λ xs. get_or xs (q * planes_in k g + (u - (q * k + 4 * g))) []) (sym group)
          ∙ side_by_side k q g u gs some first last;
      end = omega (arith, held, c.min-m.ensures, cut, rest, r.unit, r.within, r.left);
    }
