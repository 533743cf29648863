use Rattle.std.proofs.Common.{ap, arith, length, min, refl, ◌*◌, ◌+◌, ◌-◌, ◌<◌, ◌≡◌, ◌∙◌}
use Rattle.std.specs.Int.RustNames.{count_ones}
use Rattle.std.proofs.lemmas.List.{length_push}
use Rattle.bw_mask.specs.Masks.{len}
use Rattle.bw_table.specs.Changes.{places_below}
use Rattle.bw_table.proofs.Chosen.{count_pushed, few_places, more_ones, next_word}
use Rattle.bw_table.proofs.chosen_cells.counts_before.Goals as goal

pub loop-w-init : goal.loop-w-init
loop-w-init c = record {
  long = ap length c.in_ok-counts.ensures.items;
  each = λ j h. absurd (omega (arith, h));
  now = refl;
}

there : (c : goal.After-bits) → 64 * c.loop-w.w < len c.args.mask.now
there c = omega (arith, c.div_ceil-words.ensures, c.loop-w-test.true, c.len.ensures.rows)

step : (c : goal.After-bits) → length (places_below c.args.mask.now (64 * c.loop-w.w + c.min-n.result)) ≡ length (places_below c.args.mask.now (64 * c.loop-w.w)) + count_ones c.bits.result
step c = more_ones c.args.mask.now (64 * c.loop-w.w) c.min-n.result c.bits.result c.bits.type_inv (omega (arith, c.min-n.ensures)) c.bits.ensures

pub overflow_add-count : goal.overflow_add-count
overflow_add-count c =
    let mask = c.args.mask.now in
    omega (arith, step c, c.loop-w.invariant.now, few_places mask (64 * c.loop-w.w + c.min-n.result), there c, c.min-n.ensures, c.requires)

pub loop-w-preserved : goal.loop-w-preserved
loop-w-preserved c =
    let mask = c.args.mask.now in
    let w = c.loop-w.w in
    let counts = c.loop-w.counts.items in
    let inv = c.loop-w.invariant in
    let same : c.min-n.result ≡ min (len mask - 64 * w) 64 = omega (arith, c.min-n.ensures, c.len-in-loop-w.ensures.rows) in
    record {
      long = ap length c.in_ok-push.ensures.items ∙ length_push counts c.loop-w.count ∙ ap (λ k. k + 1) inv.long;
      each = rw c.in_ok-push.ensures.items (count_pushed mask counts c.loop-w.count w inv.long inv.now inv.each);
      now = omega (arith, inv.now, step c, ap length (next_word mask w c.min-n.result (there c) same));
    }

pub returns : goal.returns
returns c =
    let inv = c.loop-w.invariant in
    record {
      covers = omega (arith, inv.long, c.div_ceil-words.ensures, c.loop-w-test.false, c.len.ensures.rows);
      whole = omega (arith, inv.long, c.div_ceil-words.ensures, c.loop-w.auto.w-end, c.len.ensures.rows);
      each = λ w h. inv.each w (omega (arith, h, inv.long));
    }
