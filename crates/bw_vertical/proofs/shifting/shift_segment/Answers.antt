use Rattle.std.proofs.Common.{ap, arith, inl, inr, length, ℕ, ◌%◌, ◌*◌, ◌+◌, ◌-◌, ◌/◌, ◌<◌, ◌∙◌, ◌≡◌}
use mathlib.Core.Logic.{◌≢◌}
use Rattle.std.specs.Prelude.{if◌then◌else◌}
use Rattle.std.proofs.lemmas.Bool.{cases_eq}
use Rattle.bw_mask.specs.Masks.{bit_of, row_in}
use Rattle.bw_vertical.specs.Carries.{carried}
use Rattle.bw_vertical.specs.Storage.{code_of, lists, planes_in}
use Rattle.bw_vertical.proofs.Placing.{keeps_sizes, sizes_more}
use Rattle.bw_vertical.proofs.Segments.{bits_added, carry_on, fits_group, words_elsewhere}
use Rattle.bw_vertical.proofs.shifting.shift_segment.Goals as goal

pub shift_in_group-requires-clause-planes : goal.shift_in_group-requires-clause-planes
shift_in_group-requires-clause-planes c =
    let k = c.args.k in
    let g = c.last.g in
    let vs = c.last.groups.items in
    let within : g < length vs = omega arith in
    let m_is : k % 4 ≡ planes_in k g = omega arith in
    omega (arith, fits_group k c.args.q g (k % 4) vs c.index_mut-group.result.now within c.index_mut-group.ensures.value m_is (lists c.args.groups.now.items) c.requires.there (omega arith) (c.last.invariant.sizes.sizes g))

pub shift_in_group-requires-in-whole-clause-planes : goal.shift_in_group-requires-in-whole-clause-planes
shift_in_group-requires-in-whole-clause-planes c =
    let k = c.args.k in
    let n = c.whole.n in
    let g = k / 4 - 1 - n in
    let vs = c.whole.groups.items in
    let within : g < length vs = omega arith in
    let m_is : 4 ≡ planes_in k g = omega (arith, c.whole-test.true) in
    omega (arith, fits_group k c.args.q g 4 vs c.index_mut-group-in-whole.result.now within c.index_mut-group-in-whole.ensures.value m_is (lists c.args.groups.now.items) c.requires.there (omega (arith, c.whole-test.true)) (c.whole.invariant.sizes.sizes g))

pub last-preserved : goal.last-preserved
last-preserved c =
    let inv = c.last.invariant in
    let k = c.args.k in
    let q = c.args.q in
    let g = c.last.g in
    let m = k % 4 in
    let old = lists c.args.groups.now.items in
    let vs = c.last.groups.items in
    let v = c.index_mut-group.result.now in
    let u = c.shift_in_group.new.group in
    let step = c.shift_in_group.ensures in
    let read = c.index_mut-group.ensures.value in
    let y : ℕ → ℕ = λ j. if row_in c.args.rows.now j then c.args.by else 0 in
    let code : ℕ → ℕ = λ j. code_of k old (256 * q + j) in
    let within : g < length vs = omega arith in
    let m_is : m ≡ planes_in k g = omega arith in
    let lowest : k % 4 - 4 * (k / 4 + 1 - g) ≡ k - 1 - 4 * g + 1 - m = omega arith in
    let next : k - 1 - 4 * g + 1 ≡ k % 4 - 4 * (k / 4 + 1 - (g + 1)) = omega arith in
    let elsewhere = words_elsewhere k q g m vs v u within read m_is step.before step.behind in
    let added = bits_added k q g m vs v u within read m_is step.before step.behind y old c.last.carry c.shift_in_group.new.carry step.sums step.carry (λ i w low group. inv.left i w (inr (omega (arith, group))) low) (λ j h. inv.carry j h ∙ ap (carried (code j) (y j)) lowest) in
    let carry = carry_on k q g m vs v u within read m_is step.before step.behind y old c.last.carry c.shift_in_group.new.carry step.sums step.carry (λ i w low group. inv.left i w (inr (omega (arith, group))) low) (λ j h. inv.carry j h ∙ ap (carried (code j) (y j)) lowest) in
    record {
      sizes = sizes_more (keeps_sizes vs g v u within read (omega (arith, step.len)) (omega (arith, step.capacity))) inv.sizes;
      done = λ i j from to low h.
          elim (cases_eq (i / 4) g) [
            | inl e ↦ added i j low e h
            | inr d ↦ ap (λ w. bit_of w ((256 * q + j) % 64)) (elsewhere i ((256 * q + j) / 64) low (inl d)) ∙ inv.done i j from (omega (arith, to, d)) low h
          ];
      carry = λ j h. carry j h ∙ ap (carried (code j) (y j)) next;
      left = λ i w side low.
          let far : i / 4 ≢ g = λ e. elim side [ inl l ↦ omega (arith, l, e) | inr l ↦ omega (arith, l, e) ] in
          elsewhere i w low (inl far) ∙ inv.left i w (elim side [ inl l ↦ inl l | inr l ↦ inr (omega (arith, l)) ]) low;
      other = λ i w low d. elsewhere i w low (inr d) ∙ inv.other i w low d;
    }

pub whole-preserved : goal.whole-preserved
whole-preserved c =
    let inv = c.whole.invariant in
    let k = c.args.k in
    let q = c.args.q in
    let n = c.whole.n in
    let g = k / 4 - 1 - n in
    let old = lists c.args.groups.now.items in
    let vs = c.whole.groups.items in
    let v = c.index_mut-group-in-whole.result.now in
    let u = c.shift_in_group-in-whole.new.group in
    let step = c.shift_in_group-in-whole.ensures in
    let read = c.index_mut-group-in-whole.ensures.value in
    let y : ℕ → ℕ = λ j. if row_in c.args.rows.now j then c.args.by else 0 in
    let code : ℕ → ℕ = λ j. code_of k old (256 * q + j) in
    let within : g < length vs = omega arith in
    let m_is : 4 ≡ planes_in k g = omega (arith, c.whole-test.true) in
    let lowest : k - 4 * (k / 4 - n) ≡ k - 1 - 4 * g + 1 - 4 = omega (arith, c.whole-test.true) in
    let next : k - 1 - 4 * g + 1 ≡ k - 4 * (k / 4 - (n + 1)) = omega (arith, c.whole-test.true) in
    let elsewhere = words_elsewhere k q g 4 vs v u within read m_is step.before step.behind in
    let added = bits_added k q g 4 vs v u within read m_is step.before step.behind y old c.whole.carry c.shift_in_group-in-whole.new.carry step.sums step.carry (λ i w low group. inv.left i w (omega (arith, group, c.whole-test.true)) low) (λ j h. inv.carry j h ∙ ap (carried (code j) (y j)) lowest) in
    let carry = carry_on k q g 4 vs v u within read m_is step.before step.behind y old c.whole.carry c.shift_in_group-in-whole.new.carry step.sums step.carry (λ i w low group. inv.left i w (omega (arith, group, c.whole-test.true)) low) (λ j h. inv.carry j h ∙ ap (carried (code j) (y j)) lowest) in
    record {
      sizes = sizes_more (keeps_sizes vs g v u within read (omega (arith, step.len)) (omega (arith, step.capacity))) inv.sizes;
      done = λ i j from low h.
          elim (cases_eq (i / 4) g) [
            | inl e ↦ added i j low e h
            | inr d ↦ ap (λ w. bit_of w ((256 * q + j) % 64)) (elsewhere i ((256 * q + j) / 64) low (inl d)) ∙ inv.done i j (omega (arith, from, d)) low h
          ];
      carry = λ j h. carry j h ∙ ap (carried (code j) (y j)) next;
      left = λ i w l low. let far : i / 4 ≢ g = λ e. omega (arith, l, e) in elsewhere i w low (inl far) ∙ inv.left i w (omega (arith, l)) low;
      other = λ i w low d. elsewhere i w low (inr d) ∙ inv.other i w low d;
    }
