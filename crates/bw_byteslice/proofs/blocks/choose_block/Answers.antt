use Rattle.std.proofs.Common.{ap, arith, false, get_or, get_or-set_other, get_or-set_same, inl, inr, length, refl, set, sym, ◌*◌, ◌+◌, ◌-◌, ◌<◌, ◌≡◌, ◌∙◌}
use Rattle.std.proofs.lemmas.Bool.{both_ways, cases_eq, cases_lt, lt-ltb}
use Rattle.bw_mask.specs.Masks.{bit_of, row_at}
use Rattle.bw_mask.proofs.Bits.{bit_of_zero}
use Rattle.bw_byteslice.proofs.blocks.choose_block.Goals as goal
use Rattle.bw_byteslice.proofs.blocks.choose_block.Goals.{else-word-ne0, then-word-ne0}

pub loop-r-preserved : goal.loop-r-preserved
loop-r-preserved c k h =
    let rows = c.args.rows.now in
    let chosen = c.loop-r.chosen in
    let w = c.loop-w.w in
    let r = c.loop-r.r in
    let at = 64 * w + r in
    let has = c.has_row.result in
    let low : r < 64 = c.loop-r-test.true in
    let few : w < 8 = c.loop-w-test.true in
    let inside : at < length chosen = omega (arith, low, few) in
    let place : c.args.at + 64 * w + r ≡ c.args.at + at = omega arith in
    let row : bit_of c.bits-word.result r ≡ row_at rows (c.args.at + at) = rw (c.bits-word.ensures r, lt-ltb r 64 low, place) refl in
    elim (cases_eq k at) [
      | inl e ↦
          ap (λ q. get_or (set chosen at has) q false) e ∙ get_or-set_same chosen at has false inside ∙ c.has_row.ensures ∙ c.spread.ensures r low ∙ row
          ∙ ap (λ q. row_at rows (c.args.at + q)) (sym e)
      | inr d ↦ get_or-set_other chosen at k has false d ∙ c.loop-r.invariant k (omega (arith, h, d))
    ]

pub loop-w-preserved : goal.loop-w-preserved
loop-w-preserved c =
    let inv = c.loop-w.invariant in
    let rows = c.args.rows.now in
    let at = c.args.at in
    let i = c.loop-w.w in
    record {
      each = λ k h. c.loop-r.invariant k (omega (arith, h, c.loop-r-test.false));
      none = λ off k h. elim c.if-word-ne0.branch [
        | then-word-ne0 w ↦ absurd (both_ways c.if-word-ne0.some off w.some-is)
        | else-word-ne0 w ↦
            elim (cases_lt k (64 * i)) [
              | inl below ↦ inv.none (sym w.some-is ∙ off) k below
              | inr above ↦
                  let r = k - 64 * i in
                  let low : r < 64 = omega (arith, h, above) in
                  let place : at + 64 * i + r ≡ at + k = omega (arith, above) in
                  let row : bit_of c.bits-word.result r ≡ row_at rows (at + k) = rw (c.bits-word.ensures r, lt-ltb r 64 low, place) refl in
                  sym row ∙ ap (λ word. bit_of word r) w.if-word-ne0.false ∙ bit_of_zero r
            ]
      ];
    }
