use Rattle.std.proofs.Common.{Bool, ap, arith, false, length, refl, ℕ, ◌&&◌, ◌*◌, ◌+◌, ◌<◌, ◌≡◌, ◌≤◌, ◌∙◌}
use Rattle.std.proofs.lemmas.List.{get_or_past}
use Rattle.bw_mask.specs.Masks.{bit_of, len, row_at}
use Rattle.bw_code.specs.Tests.{meets}
use Rattle.bw_code.specs.Units.{segment_units, segments_of}
use Rattle.bw_code.proofs.Reach.{sum_none}
use Rattle.bw_code.proofs.UnitLemmas.{segment_none, segment_same}
use Rattle.bw_byteslice.specs.Slices.{by_bytes, number_in}
use Rattle.bw_byteslice.proofs.Words.{halves_found, none_past, segment_there, sum_by_twos, sum_two_more, word_put, word_row}
use Rattle.bw_byteslice.proofs.scan.scan_numbers.Goals as goal

pub loop-w-init : goal.loop-w-init
loop-w-init g c = record {
  units = refl;
  reads = let none : 2 * 0 ≡ 0 = refl in rw sum_none (omega arith);
  most = omega arith;
  shape = (refl, refl);
  rows = λ j h. absurd (omega arith);
}

pub segment-high-requires-clause-there : goal.segment-high-requires-clause-there
segment-high-requires-clause-there g c =
    let w = c.loop-w.w in
    let need = row_at c.args.need.now in
    let here : (r : ℕ) → r < 32 → bit_of c.high_half.result r ≡ need (32 * (2 * w + 1) + r) = λ r h. c.high_half.ensures r h ∙ word_row c.words-words.result.now need c.words-words.ensures.rows w (32 + r) (32 * (2 * w + 1) + r) (omega (arith, h)) (omega arith) in
    let past : (j : ℕ) → len c.args.need.now ≤ j → need j ≡ false = λ j h. get_or_past c.args.need.now.rows j false h in
    segment_there (len c.args.need.now) (2 * w + 1) (bit_of c.high_half.result) need here past c.args.m _ (ap length (c.segment-low.ensures.units ∙ c.loop-w.invariant.units) ∙ c.requires.units)

pub loop-w-preserved : goal.loop-w-preserved
loop-w-preserved g c =
    let m = c.args.m in
    let w = c.loop-w.w in
    let test = c.args.test in
    let units = g.S.Source.units c.args.source.now in
    let need = row_at c.args.need.now in
    let words = c.words-words.result.now in
    let wanted : ℕ → Bool = λ j. need j && meets test (number_in m units j) in
    let cost : ℕ → ℕ = λ p. segment_units (by_bytes m) test (λ r. need (32 * p + r)) (λ r. number_in m units (32 * p + r)) in
    let here_low : (r : ℕ) → r < 32 → bit_of c.low_half.result r ≡ need (32 * (2 * w) + r) = λ r h. c.low_half.ensures r h ∙ word_row words need c.words-words.ensures.rows w r (32 * (2 * w) + r) (omega (arith, h)) (omega arith) in
    let here_high : (r : ℕ) → r < 32 → bit_of c.high_half.result r ≡ need (32 * (2 * w + 1) + r) = λ r h. c.high_half.ensures r h ∙ word_row words need c.words-words.ensures.rows w (32 + r) (32 * (2 * w + 1) + r) (omega (arith, h)) (omega arith) in
    let units_low = c.loop-w.invariant.units in
    let units_high = c.segment-low.ensures.units ∙ c.loop-w.invariant.units in
    let cost_low : segment_units (by_bytes m) test (bit_of c.low_half.result) (λ r. number_in m (g.S.Source.units c.loop-w.source) (32 * (2 * w) + r)) ≡ cost (2 * w) =
    segment_same (by_bytes m) test _ _ _ _ here_low (λ r h. refl) ∙ ap (λ us. segment_units (by_bytes m) test (λ r. need (32 * (2 * w) + r)) (λ r. number_in m us (32 * (2 * w) + r))) units_low in
    let cost_high : segment_units (by_bytes m) test (bit_of c.high_half.result) (λ r. number_in m (g.S.Source.units c.segment-low.new.source) (32 * (2 * w + 1) + r)) ≡ cost (2 * w + 1) =
    segment_same (by_bytes m) test _ _ _ _ here_high (λ r h. refl) ∙ ap (λ us. segment_units (by_bytes m) test (λ r. need (32 * (2 * w + 1) + r)) (λ r. number_in m us (32 * (2 * w + 1) + r))) units_high in
    let found_low : (r : ℕ) → r < 32 → bit_of c.segment-low.result r ≡ wanted (32 * (2 * w) + r) = λ r h.
    c.segment-low.ensures.rows r h ∙ ap (λ b. b && meets test (number_in m (g.S.Source.units c.loop-w.source) (32 * (2 * w) + r))) (here_low r h) ∙ ap (λ us. need (32 * (2 * w) + r) && meets test (number_in m us (32 * (2 * w) + r))) units_low in
    let found_high : (r : ℕ) → r < 32 → bit_of c.segment-high.result r ≡ wanted (32 * (2 * w + 1) + r) = λ r h.
    c.segment-high.ensures.rows r h ∙ ap (λ b. b && meets test (number_in m (g.S.Source.units c.segment-low.new.source) (32 * (2 * w + 1) + r))) (here_high r h) ∙ ap (λ us. need (32 * (2 * w + 1) + r) && meets test (number_in m us (32 * (2 * w + 1) + r))) units_high in
    let found = halves_found c.joined.result c.segment-low.result c.segment-high.result w wanted c.joined.ensures.low c.joined.ensures.high found_low found_high in
    let kept = c.loop-w.invariant in
    let past : (j : ℕ) → len c.loop-w.out ≤ j → wanted j ≡ false = λ j h.
    let none : need j ≡ false = get_or_past c.args.need.now.rows j false (omega (arith, h, kept.shape.0, c.requires.out)) in rw none refl in
    let more = word_put c.loop-w.out c.put_word.new.self wanted w 64 c.joined.result (omega arith) c.put_word.ensures.shape.0 past kept.rows found c.put_word.ensures.inside c.put_word.ensures.outside in
    record {
      units = c.segment-high.ensures.units ∙ units_high;
      reads = omega (arith, c.segment-low.ensures.reads, c.segment-high.ensures.reads, kept.reads, cost_low, cost_high, sum_two_more w cost);
      most = omega (arith, c.segment-low.ensures.most, c.segment-high.ensures.most, kept.most);
      shape = (c.put_word.ensures.shape.0 ∙ kept.shape.0, c.put_word.ensures.shape.1 ∙ kept.shape.1);
      rows = λ j h. more j (omega (arith, h));
    }

pub returns-clause-reads : goal.returns-clause-reads
returns-clause-reads g c =
    let m = c.args.m in
    let test = c.args.test in
    let n = len c.args.need.now in
    let units = g.S.Source.units c.args.source.now in
    let need = row_at c.args.need.now in
    let cost : ℕ → ℕ = λ p. segment_units (by_bytes m) test (λ r. need (32 * p + r)) (λ r. number_in m units (32 * p + r)) in
    let past : (j : ℕ) → n ≤ j → need j ≡ false = λ j h. get_or_past c.args.need.now.rows j false h in
    let last : segments_of 32 n < 2 * c.loop-w.w → cost (segments_of 32 n) ≡ 0 = λ _.
    segment_none (by_bytes m) test (λ r. need (32 * segments_of 32 n + r)) (λ r. number_in m units (32 * segments_of 32 n + r)) (none_past n (segments_of 32 n) (λ r. need (32 * segments_of 32 n + r)) need (λ r h. refl) past (omega arith)) in
    omega (arith, c.loop-w.invariant.reads, sum_by_twos n c.loop-w.w cost (omega (arith, c.words-words.ensures.count, c.loop-w-test.false, c.loop-w.auto.w-end)) last)
