use Rattle.std.proofs.Common.{◌∙◌, ap, arith, get_or, set, subst, ℕ, if◌then◌else◌, ◌+◌, ◌==◌, ◌≡◌}
use Rattle.bw_lane.specs.Sections.{section_of}
use Rattle.bw_horizontal.specs.Words.{code_in, section_in, word_of}
use Rattle.bw_horizontal.proofs.Places.{code_put}
use Rattle.bw_horizontal.proofs.place.Place.put.Goals as goal

pub returns-clause-codes : goal.returns-clause-codes
returns-clause-codes c j =
    let place = c.args.self in
    let k = place.masks.width in
    let words = c.args.words.now in
    let at : place.start + place.word ≡ word_of k place.row = omega (arith, place.start_is, place.word_is) in
    let each : (u : ℕ) → section_of k u c.with_code.result ≡ (if u == section_in k place.row then c.args.code else section_of k u (get_or words (word_of k place.row) 0)) = λ u.
    subst (λ t. section_of k u c.with_code.result ≡ (if u == t then c.args.code else section_of k u (get_or words (word_of k place.row) 0))) place.section_is
    (subst (λ n. section_of k u c.with_code.result ≡ (if u == place.section then c.args.code else section_of k u (get_or words n 0))) at (c.with_code.ensures.codes u)) in
    ap (λ n. code_in k (set words n c.with_code.result) j) at ∙ code_put k place.row c.args.code c.with_code.result words place.narrow c.requires.there each j
