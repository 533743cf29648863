use Rattle.std.proofs.Common.{ap, arith, below_more, get_or, get_or-set_other, get_or-set_same, if◌then◌else◌, length, set, sym, ℕ, ◌+◌, ◌-◌, ◌<◌, ◌==◌, ◌≡◌, ◌≤◌, ◌∙◌}
use Rattle.std.proofs.lemmas.List.{length-set}
use Rattle.std.proofs.lemmas.List.Elements.{All-set}
use Rattle.bw_mask.specs.Masks.{bit_of}
use Rattle.bw_lane.specs.Sections.{IsStored, section_of}
use Rattle.bw_horizontal.specs.Words.{code_in, section_in, word_of}
use Rattle.bw_horizontal.proofs.Places.{code_on}
use Rattle.bw_horizontal.proofs.Runs.{part_stored, run_other, run_put, run_there}
use Rattle.bw_horizontal.proofs.place.Place.put_chosen.Goals as goal

pub overflow_add-run : goal.overflow_add-run
overflow_add-run c = let place = c.args.self in omega (arith, place.start_is, place.word_is, run_there place.masks.width place.row _ _ place.narrow c.requires.some c.requires.run c.requires.there)

pub offset_bounds-words-first : goal.offset_bounds-words-first
offset_bounds-words-first c = let place = c.args.self in omega (arith, place.start_is, place.word_is, run_there place.masks.width place.row _ _ place.narrow c.requires.some c.requires.run c.requires.there)

pub slice_bounds-run-end : goal.slice_bounds-run-end
slice_bounds-run-end c = let place = c.args.self in omega (arith, place.start_is, place.word_is, run_there place.masks.width place.row _ _ place.narrow c.requires.some c.requires.run c.requires.there)

pub loop-i-preserved : goal.loop-i-preserved
loop-i-preserved c =
    let place = c.args.self in
    let k = place.masks.width in
    let words = c.args.words.now in
    let rows = c.args.rows in
    let codes = c.args.codes.now in
    let first = place.start + place.word in
    let i = c.loop-i.i in
    let run = c.loop-i.run in
    let word = c.with_chosen.result in
    let here : i < length run = omega (arith, c.loop-i.invariant.len) in
    let kept : get_or run i 0 ≡ get_or words (first + i) 0 = c.loop-i.invariant.kept i (omega arith) c.loop-i-test.true in
    record {
      len = length-set run i word ∙ c.loop-i.invariant.len;
      stored = All-set (IsStored k) run i word c.with_chosen.ensures.stored c.loop-i.invariant.stored;
      put = below_more (λ m. (u : ℕ) → section_of k u (get_or (set run i word) m 0) ≡ (if u == place.section then (if bit_of rows m then get_or codes m 0 else section_of k place.section (get_or words (first + m) 0)) else section_of k u (get_or words (first + m) 0))) i
          (λ m h u. ap (section_of k u) (get_or-set_other run i m word 0 (λ e. omega arith)) ∙ c.loop-i.invariant.put m h u)
          (λ u. ap (section_of k u) (get_or-set_same run i word 0 here) ∙ c.with_chosen.ensures.codes u
          ∙ ap (λ b. if u == place.section then (if b then get_or codes i 0 else section_of k place.section (get_or run i 0)) else section_of k u (get_or run i 0)) c.has_bit-chosen.ensures
          ∙ ap (λ w. if u == place.section then (if bit_of rows i then get_or codes i 0 else section_of k place.section w) else section_of k u w) kept);
      kept = λ m up h. get_or-set_other run i m word 0 (λ e. omega arith) ∙ c.loop-i.invariant.kept m (omega (arith, up)) h;
    }

pub returns-clause-stored : goal.returns-clause-stored
returns-clause-stored c =
    let place = c.args.self in
    let k = place.masks.width in
    let words = c.args.words.now in
    let n = length c.args.codes.now in
    let first = place.start + place.word in
    let there : first + n ≤ length words = omega (arith, place.start_is, place.word_is, run_there k place.row n (length words) place.narrow c.requires.some c.requires.run c.requires.there) in
    part_stored k first (first + n - first) words c.loop-i.run (omega (arith, there)) (omega (arith, c.loop-i.invariant.len)) c.requires.stored c.loop-i.invariant.stored

pub returns-clause-put : goal.returns-clause-put
returns-clause-put c i h =
    let place = c.args.self in
    let k = place.masks.width in
    let words = c.args.words.now in
    let n = length c.args.codes.now in
    let first = place.start + place.word in
    let at : first ≡ word_of k place.row = omega (arith, place.start_is, place.word_is) in
    let there : first + n ≤ length words = omega (arith, at, run_there k place.row n (length words) place.narrow c.requires.some c.requires.run c.requires.there) in
    let own : section_of k place.section (get_or words (first + i) 0) ≡ code_in k words (place.row + i) =
    ap (λ t. section_of k t (get_or words (first + i) 0)) place.section_is ∙ ap (λ w. section_of k (section_in k place.row) (get_or words (w + i) 0)) at ∙ sym (code_on k place.row i place.narrow (omega (arith, c.requires.run, h)) words) in
    run_put k place.row (first + n - first) first place.section words c.loop-i.run (λ m. if bit_of c.args.rows m then get_or c.args.codes.now m 0 else section_of k place.section (get_or words (first + m) 0)) place.narrow (omega (arith, c.requires.run)) at place.section_is (omega (arith, there)) (omega (arith, c.loop-i.invariant.len))
    (λ m low. c.loop-i.invariant.put m (omega (arith, low, c.loop-i-test.false))) i (omega (arith, h))
    ∙ ap (λ x. if bit_of c.args.rows i then get_or c.args.codes.now i 0 else x) own

pub returns-clause-other : goal.returns-clause-other
returns-clause-other c j outside =
    let place = c.args.self in
    let k = place.masks.width in
    let words = c.args.words.now in
    let n = length c.args.codes.now in
    let first = place.start + place.word in
    let at : first ≡ word_of k place.row = omega (arith, place.start_is, place.word_is) in
    let there : first + n ≤ length words = omega (arith, at, run_there k place.row n (length words) place.narrow c.requires.some c.requires.run c.requires.there) in
    run_other k place.row (first + n - first) first place.section words c.loop-i.run (λ m. if bit_of c.args.rows m then get_or c.args.codes.now m 0 else section_of k place.section (get_or words (first + m) 0)) place.narrow (omega (arith, c.requires.run)) at place.section_is (omega (arith, there)) (omega (arith, c.loop-i.invariant.len))
    (λ m low. c.loop-i.invariant.put m (omega (arith, low, c.loop-i-test.false))) j (λ l. omega (arith, outside l))
