use Rattle.std.proofs.Common.{ap, arith, below_more, get_or, get_or-set_other, get_or-set_same, length, rules, set, sym, ◌%◌, ◌+◌, ◌<◌, ◌≡◌, ◌∙◌}
use Rattle.bw_lane.specs.Sections.{section_of}
use Rattle.bw_horizontal.specs.Words.{code_in, segment_rows, word_of}
use Rattle.bw_horizontal.proofs.Places.{code_on, word_on}
use Rattle.bw_horizontal.proofs.place.Place.codes.Goals as goal

pub bounds-words-first : goal.bounds-words-first
bounds-words-first c =
    let place = c.args.self in
    let k = place.masks.width in
    let i = c.loop-i.i in
    let low : place.row % segment_rows k % (k + 1) + i < k + 1 = omega (arith, c.requires.run, c.loop-i.invariant.len) in
    omega (arith, place.start_is, place.word_is, word_on k place.row i place.narrow low, c.requires.there i (omega (arith, c.loop-i.invariant.len)))

pub loop-i-preserved : goal.loop-i-preserved
loop-i-preserved c =
    let place = c.args.self in
    let k = place.masks.width in
    let i = c.loop-i.i in
    let words = c.args.words.now in
    let low : place.row % segment_rows k % (k + 1) + i < k + 1 = omega (arith, c.requires.run, c.loop-i.invariant.len) in
    let at : place.start + place.word + i ≡ word_of k place.row + i = omega (arith, place.start_is, place.word_is) in
    let here : c.code.result ≡ code_in k words (place.row + i) =
    c.code.ensures ∙ ap (λ w. section_of k place.section (get_or words w 0)) at ∙ ap (λ t. section_of k t (get_or words (word_of k place.row + i) 0)) place.section_is
    ∙ sym (code_on k place.row i place.narrow low words) in
    let there : i < length c.loop-i.out = omega arith in
    record {
      len = search rules;
      codes = below_more (λ m. get_or (set c.loop-i.out i c.code.result) m 0 ≡ code_in k words (place.row + m)) i
          (λ m h. get_or-set_other c.loop-i.out i m c.code.result 0 (λ e. omega arith) ∙ c.loop-i.invariant.codes m h)
          (get_or-set_same c.loop-i.out i c.code.result 0 there ∙ here);
    }
