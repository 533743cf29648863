use Rattle.std.proofs.Common.{ap, arith, false, inl, inr, sym, ◌%◌, ◌*◌, ◌+◌, ◌-◌, ◌/◌, ◌<◌, ◌∙◌, ◌≡◌}
use mathlib.Core.Logic.{◌≢◌}
use Rattle.std.specs.Prelude.{if◌then◌else◌}
use Rattle.std.proofs.lemmas.Bool.{cases_lt}
use Rattle.std.proofs.lemmas.List.{get_or_past}
use Rattle.bw_mask.specs.Masks.{bit_of, row_at, row_in}
use Rattle.bw_vertical.specs.Storage.{code_of, lists}
use Rattle.bw_vertical.proofs.Holding.{code_bit, code_same}
use Rattle.bw_vertical.proofs.Placing.{sizes_more}
use Rattle.bw_vertical.proofs.shifting.shift_codes.Goals as goal

pub loop-q-preserved : goal.loop-q-preserved
loop-q-preserved c =
    let inv = c.loop-q.invariant in
    let k = c.args.k in
    let q = c.loop-q.q in
    let old = lists c.args.groups.now.items in
    let now = lists c.loop-q.groups.items in
    let rows = c.args.rows.now in
    record {
      done = λ i j h l.
          elim (cases_lt j (256 * q)) [
            | inl below ↦
                let far : j / 64 / 4 ≢ q = λ e. omega (arith, below, e) in
                ap (λ v. bit_of v (j % 64)) (c.shift_segment.ensures.other i (j / 64) h far) ∙ inv.done i j h below
            | inr above ↦
                let r = j - 256 * q in
                let low : r < 256 = omega (arith, l, above) in
                let here : 256 * q + r ≡ j = omega (arith, above) in
                let same : code_of k now j ≡ code_of k old j = code_same k j now old (λ p s. ap (λ v. bit_of v (j % 64)) (inv.left p (j / 64) s (omega (arith, above)))) in
                let there : row_in c.lanes_at.result r ≡ row_at rows j = c.lanes_at.ensures r low ∙ c.words-words.ensures.rows (256 * q + r) ∙ ap (row_at rows) here in
                rw (here, there, same) at (c.shift_segment.ensures.segment i r h low)
          ];
      left = λ i v h l. let far : v / 4 ≢ q = λ e. omega (arith, l, e) in c.shift_segment.ensures.other i v h far ∙ inv.left i v h (omega (arith, l));
      sizes = sizes_more c.shift_segment.ensures.sizes inv.sizes;
    }

pub returns-clause-codes : goal.returns-clause-codes
returns-clause-codes c i j h =
    let inv = c.loop-q.invariant in
    let k = c.args.k in
    let old = lists c.args.groups.now.items in
    elim (cases_lt j (256 * c.loop-q.q)) [
      | inl below ↦ inv.done i j h below
      | inr above ↦
          let past : row_at c.args.rows.now j ≡ false = get_or_past c.args.rows.now.rows j false (omega (arith, above, c.requires.rows, c.loop-q-test.false, c.div_ceil-q-end.ensures)) in
          let none : code_of k old j + (if row_at c.args.rows.now j then c.args.by else 0) ≡ code_of k old j = rw past (omega arith) in
          ap (λ v. bit_of v (j % 64)) (inv.left i (j / 64) h (omega (arith, above))) ∙ sym (code_bit k i j old h) ∙ ap (λ z. bit_of z (k - 1 - i)) (sym none)
    ]
