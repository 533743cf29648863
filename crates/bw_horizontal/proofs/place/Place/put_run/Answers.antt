use Rattle.std.proofs.Common.{ap, arith, below_more, get_or, get_or-set_other, get_or-set_same, if◌then◌else◌, length, set, ℕ, ◌+◌, ◌-◌, ◌<◌, ◌==◌, ◌^◌, ◌≡◌, ◌≤◌, ◌∙◌}
use Rattle.std.proofs.lemmas.List.{length-set}
use Rattle.std.proofs.lemmas.List.Elements.{All-set}
use Rattle.std.proofs.Math.Pow.{pow_mono}
use Rattle.bw_lane.specs.Sections.{IsStored, section_of}
use Rattle.bw_horizontal.specs.Words.{word_of}
use Rattle.bw_horizontal.proofs.Runs.{part_stored, run_other, run_put, run_there}
use Rattle.bw_horizontal.proofs.place.Place.put_run.Goals as goal

pub overflow_add-run : goal.overflow_add-run
overflow_add-run c = let place = c.args.self in omega (arith, place.start_is, place.word_is, run_there place.masks.width place.row _ _ place.narrow c.requires.some c.requires.run c.requires.there)

pub offset_bounds-words-first : goal.offset_bounds-words-first
offset_bounds-words-first c = let place = c.args.self in omega (arith, place.start_is, place.word_is, run_there place.masks.width place.row _ _ place.narrow c.requires.some c.requires.run c.requires.there)

pub slice_bounds-run-end : goal.slice_bounds-run-end
slice_bounds-run-end c = let place = c.args.self in omega (arith, place.start_is, place.word_is, run_there place.masks.width place.row _ _ place.narrow c.requires.some c.requires.run c.requires.there)

pub overflow_cast-codes : goal.overflow_cast-codes
overflow_cast-codes c =
    let most : 2 ^ c.args.self.masks.width ≤ 2 ^ 32 = pow_mono {i = c.args.self.masks.width} {j = 32} c.args.self.narrow in
    omega (arith, c.requires.fit c.loop-i.i 0 c.loop-i-test.true, most)

pub loop-i-preserved : goal.loop-i-preserved
loop-i-preserved c =
    let place = c.args.self in
    let k = place.masks.width in
    let words = c.args.words.now in
    let codes = c.args.codes.now in
    let first = place.start + place.word in
    let i = c.loop-i.i in
    let run = c.loop-i.run in
    let word = c.with_code.result in
    let here : i < length run = omega (arith, c.loop-i.invariant.len) in
    let kept : get_or run i 0 ≡ get_or words (first + i) 0 = c.loop-i.invariant.kept i (omega arith) c.loop-i-test.true in
    record {
      len = length-set run i word ∙ c.loop-i.invariant.len;
      stored = All-set (IsStored k) run i word c.with_code.ensures.stored c.loop-i.invariant.stored;
      put = below_more (λ m. (u : ℕ) → section_of k u (get_or (set run i word) m 0) ≡ (if u == place.section then get_or codes m 0 else section_of k u (get_or words (first + m) 0))) i
          (λ m h u. ap (section_of k u) (get_or-set_other run i m word 0 (λ e. omega arith)) ∙ c.loop-i.invariant.put m h u)
          (λ u. ap (section_of k u) (get_or-set_same run i word 0 here) ∙ c.with_code.ensures.codes u ∙ ap (λ w. if u == place.section then get_or codes i 0 else section_of k u w) kept);
      kept = λ m up h. get_or-set_other run i m word 0 (λ e. omega arith) ∙ c.loop-i.invariant.kept m (omega (arith, up)) h;
    }

pub returns-clause-stored : goal.returns-clause-stored
returns-clause-stored c =
    let place = c.args.self in
    let k = place.masks.width in
    let words = c.args.words.now in
    let n = length c.args.codes.now in
    let first = place.start + place.word in
    let there : first + n ≤ length words = omega (arith, place.start_is, place.word_is, run_there k place.row n (length words) place.narrow c.requires.some c.requires.run c.requires.there) in
    part_stored k first (first + n - first) words c.loop-i.run (omega (arith, there)) (omega (arith, c.loop-i.invariant.len)) c.requires.stored c.loop-i.invariant.stored

pub returns-clause-put : goal.returns-clause-put
returns-clause-put c i h =
    let place = c.args.self in
    let k = place.masks.width in
    let words = c.args.words.now in
    let n = length c.args.codes.now in
    let first = place.start + place.word in
    let at : first ≡ word_of k place.row = omega (arith, place.start_is, place.word_is) in
    let there : first + n ≤ length words = omega (arith, at, run_there k place.row n (length words) place.narrow c.requires.some c.requires.run c.requires.there) in
    run_put k place.row (first + n - first) first place.section words c.loop-i.run (λ m. get_or c.args.codes.now m 0) place.narrow (omega (arith, c.requires.run)) at place.section_is (omega (arith, there)) (omega (arith, c.loop-i.invariant.len))
    (λ m low. c.loop-i.invariant.put m (omega (arith, low, c.loop-i-test.false))) i (omega (arith, h))

pub returns-clause-other : goal.returns-clause-other
returns-clause-other c j outside =
    let place = c.args.self in
    let k = place.masks.width in
    let words = c.args.words.now in
    let n = length c.args.codes.now in
    let first = place.start + place.word in
    let at : first ≡ word_of k place.row = omega (arith, place.start_is, place.word_is) in
    let there : first + n ≤ length words = omega (arith, at, run_there k place.row n (length words) place.narrow c.requires.some c.requires.run c.requires.there) in
    run_other k place.row (first + n - first) first place.section words c.loop-i.run (λ m. get_or c.args.codes.now m 0) place.narrow (omega (arith, c.requires.run)) at place.section_is (omega (arith, there)) (omega (arith, c.loop-i.invariant.len))
    (λ m low. c.loop-i.invariant.put m (omega (arith, low, c.loop-i-test.false))) j (λ l. omega (arith, outside l))
