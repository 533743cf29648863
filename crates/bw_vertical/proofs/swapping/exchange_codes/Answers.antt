use Rattle.std.proofs.Common.{Bool, List, [], ap, arith, get_or, inl, inr, length, ℕ, ◌%◌, ◌*◌, ◌+◌, ◌/◌, ◌<◌, ◌∙◌, ◌≡◌}
use mathlib.Core.Logic.{◌≢◌}
use Rattle.std.specs.Prelude.{if◌then◌else◌}
use Rattle.std.proofs.lemmas.Bool.{cases_eq}
use Rattle.bw_mask.specs.Masks.{bit_of, row_at, row_in}
use Rattle.bw_vertical.specs.Storage.{is_set, lists, planes_in}
use Rattle.bw_vertical.proofs.Exchanged.{rows_taken}
use Rattle.bw_vertical.proofs.Holding.{lists_len}
use Rattle.bw_vertical.proofs.Placing.{elsewhere, group_is, keeps_sizes, sizes_more}
use Rattle.bw_vertical.proofs.swapping.exchange_codes.Goals as goal

pub exchange_segments-requires-clause-planes : goal.exchange_segments-requires-clause-planes
exchange_segments-requires-clause-planes c =
    let g = c.loop-g.g in
    let vs = c.loop-g.groups.items in
    let within : g < length vs = omega arith in
    let some : 4 * g < c.args.k = omega (arith, c.requires.planes.count, lists_len c.args.groups.now.items, c.loop-g-test.true) in
    let room = c.requires.planes.sizes g some in
    let is = ap (λ (xs : List (List ℕ)). length xs) (group_is vs g c.index_mut-group.result.now within c.index_mut-group.ensures.value) in
    rw (c.planes_in-m.ensures, c.div_ceil-segments.ensures) (omega (arith, room, is, c.loop-g.invariant.sizes.sizes g))

pub exchange_segments-requires-clause-other_planes : goal.exchange_segments-requires-clause-other_planes
exchange_segments-requires-clause-other_planes c =
    let g = c.loop-g.g in
    let vs = c.loop-g.others.items in
    let within : g < length vs =
    omega (arith, c.requires.planes.count, c.requires.other_planes.count, lists_len c.args.groups.now.items, lists_len c.args.others.now.items, c.loop-g.invariant.other_sizes.count, c.loop-g-test.true) in
    let some : 4 * g < c.args.k = omega (arith, c.requires.planes.count, lists_len c.args.groups.now.items, c.loop-g-test.true) in
    let room = c.requires.other_planes.sizes g some in
    let is = ap (λ (xs : List (List ℕ)). length xs) (group_is vs g c.index_mut-other.result.now within c.index_mut-other.ensures.value) in
    rw (c.planes_in-m.ensures, c.div_ceil-segments.ensures) (omega (arith, room, is, c.loop-g.invariant.other_sizes.sizes g))

pub loop-g-preserved : goal.loop-g-preserved
loop-g-preserved c =
    let inv = c.loop-g.invariant in
    let k = c.args.k in
    let n = c.args.len in
    let g = c.loop-g.g in
    let m = c.planes_in-m.result in
    let rows = c.args.rows.now in
    let old = lists c.args.groups.now.items in
    let other_old = lists c.args.others.now.items in
    let vs = c.loop-g.groups.items in
    let ws = c.loop-g.others.items in
    let v = c.index_mut-group.result.now in
    let w = c.index_mut-other.result.now in
    let u = c.exchange_segments.new.group in
    let t = c.exchange_segments.new.others in
    let step = c.exchange_segments.ensures in
    let read = c.index_mut-group.ensures.value in
    let other_read = c.index_mut-other.ensures.value in
    let within : g < length vs = omega arith in
    let other_within : g < length ws = omega (arith, c.requires.planes.count, c.requires.other_planes.count, lists_len c.args.groups.now.items, lists_len c.args.others.now.items, inv.other_sizes.count, c.loop-g-test.true) in
    let m_is : m ≡ planes_in k g = c.planes_in-m.ensures in
    let behind = rw c.div_ceil-segments.ensures at step.behind in
    let other_behind = rw c.div_ceil-segments.ensures at step.other_behind in
    let own = rw c.div_ceil-segments.ensures at step.own in
    let theirs = rw c.div_ceil-segments.ensures at step.others in
    let mine = rows_taken k g m n vs ws v w u within read other_within other_read m_is rows c.requires.rows
    (λ q i j l low h. own q i j l low h ∙ ap (λ (z : Bool). if z then row_in (get_or w.items (q * m + i) []) j else row_in (get_or v.items (q * m + i) []) j) (c.words-words.ensures.rows (256 * q + j))) behind in
    let their = rows_taken k g m n ws vs w v t other_within other_read within read m_is rows c.requires.rows
    (λ q i j l low h. theirs q i j l low h ∙ ap (λ (z : Bool). if z then row_in (get_or v.items (q * m + i) []) j else row_in (get_or w.items (q * m + i) []) j) (c.words-words.ensures.rows (256 * q + j))) other_behind in
    let was : (i j : ℕ) → i / 4 ≡ g → is_set k (lists vs) i j ≡ is_set k old i j =
    λ i j e. ap (λ x. bit_of (get_or (get_or x (j / 64 / 4 * planes_in k (i / 4) + i % 4) []) (j / 64 % 4) 0) (j % 64)) (inv.left (i / 4) (omega (arith, e))) in
    let other_was : (i j : ℕ) → i / 4 ≡ g → is_set k (lists ws) i j ≡ is_set k other_old i j =
    λ i j e. ap (λ x. bit_of (get_or (get_or x (j / 64 / 4 * planes_in k (i / 4) + i % 4) []) (j / 64 % 4) 0) (j % 64)) (inv.other_left (i / 4) (omega (arith, e))) in
    record {
      sizes = sizes_more (keeps_sizes vs g v u within read (omega (arith, step.len)) (omega (arith, step.capacity))) inv.sizes;
      other_sizes = sizes_more (keeps_sizes ws g w t other_within other_read (omega (arith, step.other_len)) (omega (arith, step.other_capacity))) inv.other_sizes;
      own = λ i j low to.
          elim (cases_eq (i / 4) g) [
            | inl e ↦
                mine i j low e
                ∙ ap (λ (z : Bool). if row_at rows j then z else is_set k (lists vs) i j) (other_was i j e)
                ∙ ap (λ (z : Bool). if row_at rows j then is_set k other_old i j else z) (was i j e)
            | inr d ↦
                ap (λ x. bit_of (get_or (get_or x (j / 64 / 4 * planes_in k (i / 4) + i % 4) []) (j / 64 % 4) 0) (j % 64)) (elsewhere vs g v u within read (i / 4) d)
                ∙ inv.own i j low (omega (arith, to, d))
          ];
      theirs = λ i j low to.
          elim (cases_eq (i / 4) g) [
            | inl e ↦
                their i j low e
                ∙ ap (λ (z : Bool). if row_at rows j then z else is_set k (lists ws) i j) (was i j e)
                ∙ ap (λ (z : Bool). if row_at rows j then is_set k old i j else z) (other_was i j e)
            | inr d ↦
                ap (λ x. bit_of (get_or (get_or x (j / 64 / 4 * planes_in k (i / 4) + i % 4) []) (j / 64 % 4) 0) (j % 64)) (elsewhere ws g w t other_within other_read (i / 4) d)
                ∙ inv.theirs i j low (omega (arith, to, d))
          ];
      left = λ h from. let d : h ≢ g = λ e. omega (arith, from, e) in elsewhere vs g v u within read h d ∙ inv.left h (omega (arith, from));
      other_left = λ h from. let d : h ≢ g = λ e. omega (arith, from, e) in elsewhere ws g w t other_within other_read h d ∙ inv.other_left h (omega (arith, from));
    }
