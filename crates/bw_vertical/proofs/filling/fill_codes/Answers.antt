use Rattle.std.proofs.Common.{Bool, List, [], ap, arith, get_or, inl, inr, length, ℕ, ◌%◌, ◌*◌, ◌+◌, ◌-◌, ◌/◌, ◌<◌, ◌∙◌, ◌≡◌}
use mathlib.Core.Logic.{◌≢◌}
use Rattle.std.specs.Prelude.{if◌then◌else◌}
use Rattle.std.proofs.lemmas.Bool.{cases_eq}
use Rattle.bw_mask.specs.Masks.{bit_of, row_at, row_in}
use Rattle.bw_vertical.specs.Storage.{is_set, lists, planes_in}
use Rattle.bw_vertical.proofs.Filled.{rows_put}
use Rattle.bw_vertical.proofs.Holding.{lists_len}
use Rattle.bw_vertical.proofs.Placing.{elsewhere, group_is, keeps_sizes, sizes_more}
use Rattle.bw_vertical.proofs.filling.fill_codes.Goals as goal

pub fill_group-requires-clause-planes : goal.fill_group-requires-clause-planes
fill_group-requires-clause-planes c =
    let g = c.loop-g.g in
    let vs = c.loop-g.groups.items in
    let within : g < length vs = omega arith in
    let some : 4 * g < c.args.k = omega (arith, c.requires.planes.count, lists_len c.args.groups.now.items, c.loop-g-test.true) in
    let room = c.requires.planes.sizes g some in
    let is = ap (λ (xs : List (List ℕ)). length xs) (group_is vs g c.index_mut-group.result.now within c.index_mut-group.ensures.value) in
    rw (c.planes_in-m.ensures, c.div_ceil-segments.ensures) (omega (arith, room, is, c.loop-g.invariant.sizes.sizes g))

pub loop-g-preserved : goal.loop-g-preserved
loop-g-preserved c =
    let inv = c.loop-g.invariant in
    let k = c.args.k in
    let g = c.loop-g.g in
    let m = c.planes_in-m.result in
    let code = c.args.code in
    let rows = c.args.rows.now in
    let old = lists c.args.groups.now.items in
    let vs = c.loop-g.groups.items in
    let v = c.index_mut-group.result.now in
    let u = c.fill_group.new.group in
    let step = c.fill_group.ensures in
    let read = c.index_mut-group.ensures.value in
    let within : g < length vs = omega arith in
    let m_is : m ≡ planes_in k g = c.planes_in-m.ensures in
    let behind = rw c.div_ceil-segments.ensures at step.behind in
    let filled = rw c.div_ceil-segments.ensures at step.filled in
    let now = rows_put k g m c.args.len vs v u within read m_is rows c.requires.rows (λ i j. bit_of code (k - 1 - i))
    (λ q i j l low group h.
    let column : i % 4 < m = omega (arith, low, group, m_is) in
    let place : k - 1 - 4 * g - i % 4 ≡ k - 1 - i = omega (arith, group) in
    filled q (i % 4) j l column h
    ∙ ap (λ (z : Bool). if z then row_in (get_or c.planes_of-bits.result (i % 4) []) j else row_in (get_or v.items (q * m + i % 4) []) j) (c.words-words.ensures.rows (256 * q + j))
    ∙ ap (λ (z : Bool). if row_at rows (256 * q + j) then z else row_in (get_or v.items (q * m + i % 4) []) j) (c.planes_of-bits.ensures (i % 4) j column h ∙ ap (bit_of code) place))
    behind in
    let was : (i j : ℕ) → i / 4 ≡ g → is_set k (lists vs) i j ≡ is_set k old i j =
    λ i j e. ap (λ x. bit_of (get_or (get_or x (j / 64 / 4 * planes_in k (i / 4) + i % 4) []) (j / 64 % 4) 0) (j % 64)) (inv.left (i / 4) (omega (arith, e))) in
    record {
      sizes = sizes_more (keeps_sizes vs g v u within read (omega (arith, step.len)) (omega (arith, step.capacity))) inv.sizes;
      done = λ i j low to.
          elim (cases_eq (i / 4) g) [
            | inl e ↦ now i j low e ∙ ap (λ (z : Bool). if row_at rows j then bit_of code (k - 1 - i) else z) (was i j e)
            | inr d ↦
                ap (λ x. bit_of (get_or (get_or x (j / 64 / 4 * planes_in k (i / 4) + i % 4) []) (j / 64 % 4) 0) (j % 64)) (elsewhere vs g v u within read (i / 4) d)
                ∙ inv.done i j low (omega (arith, to, d))
          ];
      left = λ h from. let d : h ≢ g = λ e. omega (arith, from, e) in elsewhere vs g v u within read h d ∙ inv.left h (omega (arith, from));
    }
