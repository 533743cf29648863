use Rattle.std.proofs.Common.{Bool, ap, arith, false, length, refl, ℕ, ◌&&◌, ◌*◌, ◌+◌, ◌/◌, ◌<◌, ◌≡◌, ◌≤◌, ◌∙◌}
use Rattle.std.proofs.lemmas.List.{get_or_past}
use Rattle.bw_mask.specs.Masks.{bit_of, len, row_at}
use Rattle.bw_code.specs.Tests.{code_compares}
use Rattle.bw_code.proofs.Reach.{sum_none}
use Rattle.bw_byteslice.specs.Slices.{number_in, side_cost}
use Rattle.bw_byteslice.proofs.Pairs.{cost_here, rows_here, whole_cost}
use Rattle.bw_byteslice.proofs.Words.{halves_found, segment_there, sum_two_more, word_put, word_row}
use Rattle.bw_byteslice.proofs.pair.pair_numbers.Goals as goal

pub loop-w-init : goal.loop-w-init
loop-w-init g c = record {
  units = refl;
  other_units = refl;
  reads = let none : 2 * 0 ≡ 0 = refl in rw sum_none (omega arith);
  other_reads = let none : 2 * 0 ≡ 0 = refl in rw sum_none (omega arith);
  most = omega arith;
  other_most = omega arith;
  shape = (refl, refl);
  rows = λ j h. absurd (omega arith);
}

pub segment-high-requires-clause-there : goal.segment-high-requires-clause-there
segment-high-requires-clause-there g c =
    let w = c.loop-w.w in
    let need = row_at c.args.need.now in
    let here : (r : ℕ) → r < 32 → bit_of c.high_half.result r ≡ need (32 * (2 * w + 1) + r) = λ r h. c.high_half.ensures r h ∙ word_row c.words-words.result.now need c.words-words.ensures.rows w (32 + r) (32 * (2 * w + 1) + r) (omega (arith, h)) (omega arith) in
    let past : (j : ℕ) → len c.args.need.now ≤ j → need j ≡ false = λ j h. get_or_past c.args.need.now.rows j false h in
    segment_there (len c.args.need.now) (2 * w + 1) (bit_of c.high_half.result) need here past c.args.m _ (ap length (c.segment-low.ensures.units ∙ c.loop-w.invariant.units) ∙ c.requires.units)

pub segment-high-requires-clause-other_there : goal.segment-high-requires-clause-other_there
segment-high-requires-clause-other_there g c =
    let w = c.loop-w.w in
    let need = row_at c.args.need.now in
    let here : (r : ℕ) → r < 32 → bit_of c.high_half.result r ≡ need (32 * (2 * w + 1) + r) = λ r h. c.high_half.ensures r h ∙ word_row c.words-words.result.now need c.words-words.ensures.rows w (32 + r) (32 * (2 * w + 1) + r) (omega (arith, h)) (omega arith) in
    let past : (j : ℕ) → len c.args.need.now ≤ j → need j ≡ false = λ j h. get_or_past c.args.need.now.rows j false h in
    segment_there (len c.args.need.now) (2 * w + 1) (bit_of c.high_half.result) need here past c.args.m _ (ap length (c.segment-low.ensures.other_units ∙ c.loop-w.invariant.other_units) ∙ c.requires.other_units)

pub loop-w-preserved : goal.loop-w-preserved
loop-w-preserved g c =
    let m = c.args.m in
    let w = c.loop-w.w in
    let op = c.args.op in
    let units = g.A.Source.units c.args.a.now in
    let others = g.B.Source.units c.args.b.now in
    let need = row_at c.args.need.now in
    let words = c.words-words.result.now in
    let kept = c.loop-w.invariant in
    let wanted : ℕ → Bool = λ j. need j && code_compares op (number_in m units j) (number_in m others j) in
    let cost : ℕ → ℕ = λ p. side_cost m (λ r. need (32 * p + r)) (λ r. number_in m units (32 * p + r)) (λ r. number_in m others (32 * p + r)) in
    let here_low : (r : ℕ) → r < 32 → bit_of c.low_half.result r ≡ need (32 * (2 * w) + r) = λ r h. c.low_half.ensures r h ∙ word_row words need c.words-words.ensures.rows w r (32 * (2 * w) + r) (omega (arith, h)) (omega arith) in
    let here_high : (r : ℕ) → r < 32 → bit_of c.high_half.result r ≡ need (32 * (2 * w + 1) + r) = λ r h. c.high_half.ensures r h ∙ word_row words need c.words-words.ensures.rows w (32 + r) (32 * (2 * w + 1) + r) (omega (arith, h)) (omega arith) in
    let after = c.segment-low.ensures.units ∙ kept.units in
    let other_after = c.segment-low.ensures.other_units ∙ kept.other_units in
    let cost_low = cost_here m (2 * w) need (bit_of c.low_half.result) units others _ _ here_low kept.units kept.other_units in
    let cost_high = cost_here m (2 * w + 1) need (bit_of c.high_half.result) units others _ _ here_high after other_after in
    let found_low = rows_here m (2 * w) need (bit_of c.low_half.result) units others _ _ here_low kept.units kept.other_units op (bit_of c.segment-low.result) c.segment-low.ensures.rows in
    let found_high = rows_here m (2 * w + 1) need (bit_of c.high_half.result) units others _ _ here_high after other_after op (bit_of c.segment-high.result) c.segment-high.ensures.rows in
    let found = halves_found c.joined.result c.segment-low.result c.segment-high.result w wanted c.joined.ensures.low c.joined.ensures.high found_low found_high in
    let past : (j : ℕ) → len c.loop-w.out ≤ j → wanted j ≡ false = λ j h.
    let none : need j ≡ false = get_or_past c.args.need.now.rows j false (omega (arith, h, kept.shape.0, c.requires.out)) in rw none refl in
    let more = word_put c.loop-w.out c.put_word.new.self wanted w 64 c.joined.result (omega arith) c.put_word.ensures.shape.0 past kept.rows found c.put_word.ensures.inside c.put_word.ensures.outside in
    record {
      units = c.segment-high.ensures.units ∙ after;
      other_units = c.segment-high.ensures.other_units ∙ other_after;
      reads = omega (arith, c.segment-low.ensures.reads, c.segment-high.ensures.reads, kept.reads, cost_low, cost_high, sum_two_more w cost);
      other_reads = omega (arith, c.segment-low.ensures.other_reads, c.segment-high.ensures.other_reads, kept.other_reads, cost_low, cost_high, sum_two_more w cost);
      most = omega (arith, c.segment-low.ensures.most, c.segment-high.ensures.most, kept.most);
      other_most = omega (arith, c.segment-low.ensures.other_most, c.segment-high.ensures.other_most, kept.other_most);
      shape = (c.put_word.ensures.shape.0 ∙ kept.shape.0, c.put_word.ensures.shape.1 ∙ kept.shape.1);
      rows = λ j h. more j (omega (arith, h));
    }

pub returns-clause-reads : goal.returns-clause-reads
returns-clause-reads g c =
    let n = len c.args.need.now in
    let need = row_at c.args.need.now in
    let count : c.loop-w.w ≡ (n + 63) / 64 = omega (arith, c.words-words.ensures.count, c.loop-w-test.false, c.loop-w.auto.w-end) in
    let cost = whole_cost c.args.m n c.loop-w.w need (number_in c.args.m (g.A.Source.units c.args.a.now)) (number_in c.args.m (g.B.Source.units c.args.b.now)) count (λ j h. get_or_past c.args.need.now.rows j false h) in
    omega (arith, c.loop-w.invariant.reads, cost)

pub returns-clause-other_reads : goal.returns-clause-other_reads
returns-clause-other_reads g c =
    let n = len c.args.need.now in
    let need = row_at c.args.need.now in
    let count : c.loop-w.w ≡ (n + 63) / 64 = omega (arith, c.words-words.ensures.count, c.loop-w-test.false, c.loop-w.auto.w-end) in
    let cost = whole_cost c.args.m n c.loop-w.w need (number_in c.args.m (g.A.Source.units c.args.a.now)) (number_in c.args.m (g.B.Source.units c.args.b.now)) count (λ j h. get_or_past c.args.need.now.rows j false h) in
    omega (arith, c.loop-w.invariant.other_reads, cost)
