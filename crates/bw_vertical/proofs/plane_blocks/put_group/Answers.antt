use Rattle.std.proofs.Common.{[], ap, arith, get_or, get_or-set_same, inl, inr, length, length-set, refl, set, sym, ◌%◌, ◌*◌, ◌+◌, ◌-◌, ◌/◌, ◌<◌, ◌≡◌, ◌≤◌, ◌∙◌}
use mathlib.Core.Logic.{◌≢◌}
use Rattle.std.proofs.Math.Nat.{mul-le-mul_right}
use Rattle.std.proofs.lemmas.Bool.{cases_eq, cases_lt}
use Rattle.bw_vertical.specs.Storage.{lists, planes_in, word_of}
use Rattle.bw_vertical.proofs.Placing.{elsewhere, keeps_sizes, word_in_group}
use Rattle.bw_vertical.proofs.plane_blocks.put_group.Goals as goal

pub returns-clause-sizes : goal.returns-clause-sizes
returns-clause-sizes c =
    let vs = c.args.groups.now.items in
    let within : c.args.g < length vs = omega arith in
    keeps_sizes vs c.args.g c.index_mut-group.result.now c.put_part.new.group within c.index_mut-group.ensures.value (omega (arith, c.put_part.ensures.len)) (omega (arith, c.put_part.ensures.capacity))

pub returns-clause-put : goal.returns-clause-put
returns-clause-put c i w h group low =
    let k = c.args.k in
    let q = c.args.q in
    let g = c.args.g in
    let m = c.args.m in
    let vs = c.args.groups.now.items in
    let u = c.put_part.new.group in
    let within : g < length vs = omega arith in
    let column : i % 4 < m = omega (arith, h, group, c.requires.planes) in
    let place : k - 1 - 4 * g - i % 4 ≡ k - 1 - i = omega (arith, h, group) in
    let segment : (4 * q + w) / 4 ≡ q = omega (arith, low) in
    let lane : (4 * q + w) % 4 ≡ w = omega (arith, low) in
    sym (word_in_group k i (4 * q + w) g m (i % 4) (set vs g u) u (omega (arith, within, length-set vs g u)) (sym (get_or-set_same vs g u u within)) group c.requires.planes refl)
    ∙ ap (λ z. get_or (get_or u.items (z * m + i % 4) []) ((4 * q + w) % 4) 0) segment
    ∙ ap (λ z. get_or (get_or u.items (q * m + i % 4) []) z 0) lane
    ∙ c.put_part.ensures.put (i % 4) w column low
    ∙ ap (λ n. get_or (get_or c.args.block.now n []) (4 * c.args.s + w) 0) place

pub returns-clause-other : goal.returns-clause-other
returns-clause-other c i v h away =
    let k = c.args.k in
    let q = c.args.q in
    let g = c.args.g in
    let m = c.args.m in
    let vs = c.args.groups.now.items in
    let old = c.index_mut-group.result.now in
    let u = c.put_part.new.group in
    let step = c.put_part.ensures in
    let read = c.index_mut-group.ensures.value in
    let within : g < length vs = omega arith in
    let far : i / 4 ≢ g → word_of k (lists (set vs g u)) i v ≡ word_of k (lists vs) i v =
    λ d. ap (λ xs. get_or (get_or xs (v / 4 * planes_in k (i / 4) + i % 4) []) (v % 4) 0) (elsewhere vs g old u within read (i / 4) d) in
    elim (cases_eq (i / 4) g) [
      | inl e ↦
          let d : v / 4 ≢ q = elim away [ inl d ↦ absurd (d e) | inr d ↦ d ] in
          let column : i % 4 < m = omega (arith, h, e, c.requires.planes) in
          let same : get_or u.items (v / 4 * m + i % 4) [] ≡ get_or old.items (v / 4 * m + i % 4) [] =
          elim (cases_lt (v / 4) q) [
            | inl l ↦ let next : v / 4 + 1 ≤ q = omega (arith, l) in step.before (v / 4 * m + i % 4) (omega (arith, column, mul-le-mul_right m next))
            | inr l ↦ let next : q + 1 ≤ v / 4 = omega (arith, l, d) in step.behind (v / 4 * m + i % 4) (omega (arith, mul-le-mul_right m next))
          ] in
          sym (word_in_group k i v g m (i % 4) (set vs g u) u (omega (arith, within, length-set vs g u)) (sym (get_or-set_same vs g u u within)) e c.requires.planes refl)
          ∙ ap (λ xs. get_or xs (v % 4) 0) same
          ∙ word_in_group k i v g m (i % 4) vs old within read e c.requires.planes refl
      | inr d ↦ far d
    ]
