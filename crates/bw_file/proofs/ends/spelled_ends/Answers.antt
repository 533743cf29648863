use Rattle.std.proofs.Common.{None, Option, ap, arith, fold, get_or, of_z, pos, refl, rules, subst, sym, take, to_z, w32, ◌%◌, ◌&&◌, ◌||◌, true, false, ◌*◌, ◌+◌, ◌/◌, ◌<◌, ◌≡◌, ◌∙◌}
use Rattle.std.proofs.lemmas.Int.{to_z-of_z}
use Rattle.std.proofs.lemmas.List.{take_all}
use Rattle.std.specs.Int.{int_max, int_min}
use Rattle.bw_cells.specs.Known.{known}
use Rattle.bw_code.specs.Fittings.{AreEnds}
use Rattle.bw_code.specs.declared.ends.Ends.{Ends}
use Rattle.bw_file.specs.declared.ends.Spelling.{Spelling}
use Rattle.bw_file.specs.declared.ends.Spelling.TheVariants.{Right, Wrong}
use Rattle.bw_file.specs.Reading.{cells_in}
use Rattle.bw_file.proofs.Agree.{both, still}
use Rattle.bw_file.proofs.ColumnEnds.{are_between, bottom, ends_are, greatest_at, least_at, top, zero_at_null}
use Rattle.bw_file.proofs.EndLanes.{greatest_set, least_set}
use Rattle.bw_file.proofs.Lent.{bit_among_eight, integers_in, length-cells_in, spelled_more, word_small, zero_or_there}
use Rattle.bw_file.proofs.ends.spelled_ends.Goals as goal

pub eights-init : goal.eights-init
eights-init c = record { long_least = refl; long_greatest = refl; yes = λ agree i h. absurd (omega (arith, h)); told = λ all. refl; least = λ agree. refl; greatest = λ agree. refl }

pub bits-init : goal.bits-init
bits-init c =
    let cells = cells_in c.args.rows c.args.present.now c.args.words.now in
    let same : 8 * c.eights.q + 0 ≡ 8 * c.eights.q = omega arith in
    record {
      long_least = c.eights.invariant.long_least;
      long_greatest = c.eights.invariant.long_greatest;
      yes = λ agree i h. c.eights.invariant.yes agree i (omega (arith, h));
      told = c.eights.invariant.told;
      least = λ agree. c.eights.invariant.least agree ∙ ap (λ n. fold int_min top (known (take n cells))) (sym same);
      greatest = λ agree. c.eights.invariant.greatest agree ∙ ap (λ n. fold int_max bottom (known (take n cells))) (sym same);
    }

pub bits-preserved : goal.bits-preserved
bits-preserved c =
    let rows = c.args.rows in
    let present = c.args.present.now in
    let words = c.args.words.now in
    let cells = cells_in rows present words in
    let i = 8 * c.eights.q + c.bits.j in
    let inside : i < rows = omega (arith, c.bits-test.true, c.eights-test.true) in
    let has = c.has_bit-there.ensures ∙ bit_among_eight present c.eights.q c.bits.j c.bits-test.true in
    let next : 8 * c.eights.q + (c.bits.j + 1) ≡ i + 1 = omega arith in
    let word : to_z w32 (of_z w32 c.word_at-word.result) ≡ c.word_at-word.result = to_z-of_z w32 c.word_at-word.result (search rules) in
    let low : to_z w32 (of_z w32 c.word_or.result) ≡ c.word_or.result = to_z-of_z w32 c.word_or.result (search rules) in
    let high : to_z w32 (of_z w32 c.word_or-in-bits.result) ≡ c.word_or-in-bits.result = to_z-of_z w32 c.word_or-in-bits.result (search rules) in
    let low_lane : to_z w32 (of_z w32 (get_or c.bits.least c.bits.j (pos 0))) ≡ get_or c.bits.least c.bits.j (pos 0) = to_z-of_z w32 (get_or c.bits.least c.bits.j (pos 0)) (search rules) in
    let high_lane : to_z w32 (of_z w32 (get_or c.bits.greatest c.bits.j (pos 0))) ≡ get_or c.bits.greatest c.bits.j (pos 0) = to_z-of_z w32 (get_or c.bits.greatest c.bits.j (pos 0)) (search rules) in
    let least : to_z w32 (of_z w32 c.min.result) ≡ c.min.result = to_z-of_z w32 c.min.result (search rules) in
    let greatest : to_z w32 (of_z w32 c.max.result) ≡ c.max.result = to_z-of_z w32 c.max.result (search rules) in
    let small = word_small words (4 * i) (λ k. omega (arith, c.type_inv.words k)) in
    let joins : c.bits.agree && (c.has_bit-there.result || c.is_zero.result) ≡ true → c.has_bit-there.result ≡ false → to_z w32 (of_z w32 c.word_at-word.result) ≡ pos 0 = λ agrees gone. word ∙ zero_at_null c.has_bit-there.result c.is_zero.result _ c.word_at-word.result (both c.bits.agree _ agrees).1 c.is_zero.ensures c.word_at-word.ensures gone in
    rw (least, greatest) record {
      long_least = search rules;
      long_greatest = search rules;
      yes = λ agrees k h. spelled_more present words i c.bits.agree _ _ small has c.is_zero.ensures c.bits.invariant.yes agrees k (omega (arith, h));
      told = λ all. still c.bits.agree _ (c.bits.invariant.told all) (zero_or_there present words i _ _ has c.is_zero.ensures (all i inside));
      least = λ agrees.
          let lower = least_set top _ (pos 0) c.min.result c.bits.least c.bits.j (omega (arith, c.bits.invariant.long_least, c.bits-test.true)) (rw (low_lane, low, c.word_or.ensures (joins agrees), word) at c.min.ensures.value) in
          least_at rows i present words c.has_bit-there.result c.word_at-word.result inside has c.word_at-word.ensures _ _ (c.bits.invariant.least (both c.bits.agree _ agrees).0) lower ∙ ap (λ n. fold int_min top (known (take n cells))) (sym next);
      greatest = λ agrees.
          let higher = greatest_set bottom _ (pos 0) c.max.result c.bits.greatest c.bits.j (omega (arith, c.bits.invariant.long_greatest, c.bits-test.true)) (rw (high_lane, high, c.word_or-in-bits.ensures (joins agrees), word) at c.max.ensures.value) in
          greatest_at rows i present words c.has_bit-there.result c.word_at-word.result inside has c.word_at-word.ensures _ _ (c.bits.invariant.greatest (both c.bits.agree _ agrees).0) higher ∙ ap (λ n. fold int_max bottom (known (take n cells))) (sym next);
    }

pub eights-preserved : goal.eights-preserved
eights-preserved c =
    let cells = cells_in c.args.rows c.args.present.now c.args.words.now in
    let same : 8 * c.eights.q + c.bits.j ≡ 8 * (c.eights.q + 1) = omega (arith, c.bits-test.false, c.bits.auto.j-end) in
    record {
      long_least = c.bits.invariant.long_least;
      long_greatest = c.bits.invariant.long_greatest;
      yes = λ agree i h. c.bits.invariant.yes agree i (omega (arith, h, same));
      told = c.bits.invariant.told;
      least = λ agree. c.bits.invariant.least agree ∙ ap (λ n. fold int_min top (known (take n cells))) same;
      greatest = λ agree. c.bits.invariant.greatest agree ∙ ap (λ n. fold int_max bottom (known (take n cells))) same;
    }

pub rest-init : goal.rest-init
rest-init c =
    let cells = cells_in c.args.rows c.args.present.now c.args.words.now in
    let same : 8 * c.eights.q ≡ c.args.rows / 8 * 8 = omega (arith, c.eights-test.false, c.eights.auto.q-end) in
    record {
      long_least = c.eights.invariant.long_least;
      long_greatest = c.eights.invariant.long_greatest;
      yes = λ agree i h. c.eights.invariant.yes agree i (omega (arith, h, same));
      told = c.eights.invariant.told;
      least = λ agree. c.eights.invariant.least agree ∙ ap (λ n. fold int_min top (known (take n cells))) same;
      greatest = λ agree. c.eights.invariant.greatest agree ∙ ap (λ n. fold int_max bottom (known (take n cells))) same;
    }

pub rest-preserved : goal.rest-preserved
rest-preserved c =
    let rows = c.args.rows in
    let present = c.args.present.now in
    let words = c.args.words.now in
    let i = c.rest.i in
    let word : to_z w32 (of_z w32 c.word_at-word-in-rest.result) ≡ c.word_at-word-in-rest.result = to_z-of_z w32 c.word_at-word-in-rest.result (search rules) in
    let low : to_z w32 (of_z w32 c.word_or-in-rest.result) ≡ c.word_or-in-rest.result = to_z-of_z w32 c.word_or-in-rest.result (search rules) in
    let high : to_z w32 (of_z w32 c.word_or-in-rest-2.result) ≡ c.word_or-in-rest-2.result = to_z-of_z w32 c.word_or-in-rest-2.result (search rules) in
    let low_lane : to_z w32 (of_z w32 (get_or c.rest.least (i % 8) (pos 0))) ≡ get_or c.rest.least (i % 8) (pos 0) = to_z-of_z w32 (get_or c.rest.least (i % 8) (pos 0)) (search rules) in
    let high_lane : to_z w32 (of_z w32 (get_or c.rest.greatest (i % 8) (pos 0))) ≡ get_or c.rest.greatest (i % 8) (pos 0) = to_z-of_z w32 (get_or c.rest.greatest (i % 8) (pos 0)) (search rules) in
    let least : to_z w32 (of_z w32 c.min-in-rest.result) ≡ c.min-in-rest.result = to_z-of_z w32 c.min-in-rest.result (search rules) in
    let greatest : to_z w32 (of_z w32 c.max-in-rest.result) ≡ c.max-in-rest.result = to_z-of_z w32 c.max-in-rest.result (search rules) in
    let small = word_small words (4 * i) (λ k. omega (arith, c.type_inv.words k)) in
    let joins : c.rest.agree && (c.has_cell-there.result || c.is_zero-in-rest.result) ≡ true → c.has_cell-there.result ≡ false → to_z w32 (of_z w32 c.word_at-word-in-rest.result) ≡ pos 0 = λ agrees gone. word ∙ zero_at_null c.has_cell-there.result c.is_zero-in-rest.result _ c.word_at-word-in-rest.result (both c.rest.agree _ agrees).1 c.is_zero-in-rest.ensures c.word_at-word-in-rest.ensures gone in
    rw (least, greatest) record {
      long_least = search rules;
      long_greatest = search rules;
      yes = λ agrees k h. spelled_more present words i c.rest.agree _ _ small c.has_cell-there.ensures c.is_zero-in-rest.ensures c.rest.invariant.yes agrees k (omega (arith, h));
      told = λ all. still c.rest.agree _ (c.rest.invariant.told all) (zero_or_there present words i _ _ c.has_cell-there.ensures c.is_zero-in-rest.ensures (all i c.rest-test.true));
      least = λ agrees.
          let lower = least_set top _ (pos 0) c.min-in-rest.result c.rest.least (i % 8) (omega (arith, c.rest.invariant.long_least)) (rw (low_lane, low, c.word_or-in-rest.ensures (joins agrees), word) at c.min-in-rest.ensures.value) in
          least_at rows i present words c.has_cell-there.result c.word_at-word-in-rest.result c.rest-test.true c.has_cell-there.ensures c.word_at-word-in-rest.ensures _ _ (c.rest.invariant.least (both c.rest.agree _ agrees).0) lower;
      greatest = λ agrees.
          let higher = greatest_set bottom _ (pos 0) c.max-in-rest.result c.rest.greatest (i % 8) (omega (arith, c.rest.invariant.long_greatest)) (rw (high_lane, high, c.word_or-in-rest-2.ensures (joins agrees), word) at c.max-in-rest.ensures.value) in
          greatest_at rows i present words c.has_cell-there.result c.word_at-word-in-rest.result c.rest-test.true c.has_cell-there.ensures c.word_at-word-in-rest.ensures _ _ (c.rest.invariant.greatest (both c.rest.agree _ agrees).0) higher;
    }

-- the ends where all words agree
abbrev ends_of : Spelling → Option Ends
ends_of (Right ends) = ends
ends_of Wrong = None

pub returns-then-agree-clause-ends : goal.returns-then-agree-clause-ends
returns-then-agree-clause-ends c ends is =
    let agree = c.if-agree.true in
    let cells = cells_in c.args.rows c.args.present.now c.args.words.now in
    let all : take c.rest.i cells ≡ cells = take_all c.rest.i cells (omega (arith, c.rest-test.false, length-cells_in c.args.rows c.args.present.now c.args.words.now)) in
    let integers = integers_in c.args.rows c.args.present.now c.args.words.now (λ k. omega (arith, c.type_inv.words k)) in
    let least : to_z w32 (of_z w32 c.least_of.result) ≡ c.least_of.result = to_z-of_z w32 c.least_of.result (search rules) in
    let greatest : to_z w32 (of_z w32 c.greatest_of.result) ≡ c.greatest_of.result = to_z-of_z w32 c.greatest_of.result (search rules) in
    subst (AreEnds (known cells)) (ap ends_of is)
    (ends_are (known cells) _ _ c.ends_between.result (are_between cells integers)
    (least ∙ c.least_of.ensures ∙ c.rest.invariant.least agree ∙ ap (λ xs. fold int_min top (known xs)) all)
    (greatest ∙ c.greatest_of.ensures ∙ c.rest.invariant.greatest agree ∙ ap (λ xs. fold int_max bottom (known xs)) all)
    c.ends_between.ensures.some c.ends_between.ensures.none)
