use Rattle.std.proofs.Common.{FitsSigned, None, [], refl, ap, arith, drop, get_or, inl, inr, is_some, length, length-drop, length-set, length-take, map, min, of_z, rules, subst, sym, take, to_z, w64, ◌%◌, ◌*◌, ◌+◌, ◌-◌, ◌/◌, ◌<◌, ◌≡◌, ◌≢◌, ◌∙◌}
use Rattle.std.proofs.lemmas.Bool.{cases_lt}
use Rattle.std.proofs.lemmas.Int.{to_z-of_z}
use Rattle.std.proofs.lemmas.List.{get_or_past, length-append, length-map}
use Rattle.bw_mask.specs.Masks.{bit_of, row_in}
use Rattle.bw_mask.proofs.Views.{past}
use Rattle.bw_cells.specs.Distances.{distance_from}
use Rattle.bw_file.proofs.WordRows.{cell_of_word, number_of_word, row_elsewhere, row_here}
use Rattle.bw_file.proofs.planes.computed_planes.Goals as goal

pub loop-j-init : goal.loop-j-init
loop-j-init g c = record {
  room = refl;
  long = refl;
  planes = λ b r h l. absurd (omega (arith, l));
  told = λ i h. absurd (omega (arith, h));
}

pub loop-j-preserved : goal.loop-j-preserved
loop-j-preserved g c =
    let inv = c.loop-j.invariant in
    let cells = g.C.Cells.cells c.args.column.now in
    let j = c.loop-j.j in
    let at = c.args.at in
    let count = c.args.count in
    let base = to_z w64 (of_z w64 c.args.base) in
    let from = c.min-from.result in
    let n = c.min.result in
    let block = c.put_word_of_wide.new.block in
    let word = c.distances.result in
    let start : from ≡ min count (64 * j) = omega (arith, c.min-from.ensures) in
    let size : n ≡ min (count - from) 64 = omega (arith, c.min.ensures) in
    let old_size : length (take n c.loop-j.list) ≡ n = omega (arith, length-take n c.loop-j.list, inv.room, size) in
    let there : j < length c.loop-j.present = omega (arith, inv.long, c.loop-j-test.true) in
    let rest = drop (at + from) cells in
    let run = take (length (take n c.loop-j.list)) rest in
    let new = c.distances.new.out in
    let new_size : length new ≡ n =
    ap length c.distances.ensures.distances ∙ length-map run (distance_from base) ∙ omega (arith, length-take (length (take n c.loop-j.list)) rest, length-drop (at + from) cells, old_size, c.requires.inside, start, size) in
    record {
      room = omega (arith, length-append new (drop n c.loop-j.list), length-drop n c.loop-j.list, new_size, inv.room, size);
      long = length-set c.loop-j.present j word ∙ inv.long;
      planes = λ b r h l.
          elim (cases_lt r (64 * j)) [
            | inl before ↦
                let far : r / 64 ≢ j = λ e. omega (arith, e, before) in
                ap (λ w. bit_of w (r % 64)) (c.put_word_of_wide.ensures.others b (r / 64) far) ∙ inv.planes b r h before
            | inr here ↦
                let is : r / 64 ≡ j = omega (arith, here, l) in
                let row : r % 64 < 64 = omega arith in
                let place : 64 * j + r % 64 ≡ r = omega (arith, is) in
                ap (λ q. bit_of (get_or (get_or block b []) q 0) (r % 64)) is
                ∙ c.put_word_of_wide.ensures.put b (r % 64) h row
                ∙ ap (λ ds. bit_of (get_or ds (r % 64) 0) b) c.distances.ensures.distances
                ∙ ap (λ m. bit_of (get_or (map (distance_from base) (take m (drop (at + from) cells))) (r % 64) 0) b) old_size
                ∙ ap (λ d. bit_of d b) (number_of_word cells at count j from n (r % 64) c.requires.inside start size row (distance_from base))
                ∙ ap (λ q. bit_of (get_or (map (distance_from base) (take count (drop at cells))) q 0) b) place
          ];
      told = λ i h.
          elim (cases_lt i (64 * j)) [
            | inl before ↦
                let far : i / 64 ≢ j = λ e. omega (arith, e, before) in
                row_elsewhere c.loop-j.present j word i far ∙ inv.told i before
            | inr here ↦
                let is : i / 64 ≡ j = omega (arith, here, h) in
                let row : i % 64 < 64 = omega arith in
                let place : 64 * j + i % 64 ≡ i = omega (arith, is) in
                row_here c.loop-j.present j word i there is
                ∙ c.distances.ensures.present (i % 64)
                ∙ ap (λ m. is_some (get_or (take m (drop (at + from) cells)) (i % 64) None)) old_size
                ∙ ap is_some (cell_of_word cells at count j from n (i % 64) c.requires.inside start size row)
                ∙ ap (λ q. is_some (get_or (take count (drop at cells)) q None)) place
          ];
    }

pub returns-clause-planes : goal.returns-clause-planes
returns-clause-planes g c b r h l =
    let run = take c.args.count (drop c.args.at (g.C.Cells.cells c.args.column.now)) in
    let fits : FitsSigned w64 c.args.base = search rules in
    subst (λ z. row_in (get_or c.loop-j.block b []) r ≡ bit_of (get_or (map (distance_from z) run) r 0) b) (to_z-of_z w64 c.args.base fits)
    (c.loop-j.invariant.planes b r h (omega (arith, l, c.loop-j-test.false)))

pub returns-clause-present : goal.returns-clause-present
returns-clause-present g c i =
    let inv = c.loop-j.invariant in
    let run = take c.args.count (drop c.args.at (g.C.Cells.cells c.args.column.now)) in
    elim (cases_lt i 2048) [
      | inl here ↦ inv.told i (omega (arith, here, c.loop-j-test.false))
      | inr high ↦
          past c.loop-j.present i (omega (arith, inv.long, high))
          ∙ sym (ap is_some (get_or_past run i None (omega (arith, high, c.requires.few, length-take c.args.count (drop c.args.at (g.C.Cells.cells c.args.column.now))))))
    ]
