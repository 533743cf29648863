use Rattle.std.proofs.Common.{ap, arith, drop, false, length, length-drop, length-take, sym, take, ℕ, ◌+◌, ◌-◌, ◌≡◌, ◌≤◌, ◌∙◌}
use Rattle.bw_mask.specs.Masks.{bit_of}
use Rattle.bw_code.proofs.Runs.{chosen_from}
use Rattle.bw_horizontal.proofs.FullWords.{full_codes, full_stored}
use Rattle.bw_horizontal.proofs.full_words.fill_run.Goals as goal

pub returns-clause-stored : goal.returns-clause-stored
returns-clause-stored c =
    let at = c.args.at in
    let rows = c.args.rows in
    let words = c.args.words.now in
    let n = c.args.end - at in
    let fits : at + n ≤ length words = omega (arith, c.requires.there, c.requires.begin) in
    let size : length (take n (drop at words)) ≡ n = omega (arith, length-take n (drop at words), length-drop at words, fits) in
    let none : (i : ℕ) → n ≤ i → bit_of rows i ≡ false = λ i h. ap (bit_of rows) (omega arith) ∙ sym (chosen_from at rows (at + i) (omega arith)) ∙ c.requires.none (at + i) (omega (arith, h)) in
    full_stored at rows n words c.fill_chosen.new.kept (λ i. c.args.code) c.requires.stored fits (c.fill_chosen.ensures.long ∙ size) (λ i. c.requires.fits)
    (λ i h. c.fill_chosen.ensures.each i (omega (arith, h, size))) none

pub returns-clause-codes : goal.returns-clause-codes
returns-clause-codes c =
    let at = c.args.at in
    let rows = c.args.rows in
    let words = c.args.words.now in
    let n = c.args.end - at in
    let fits : at + n ≤ length words = omega (arith, c.requires.there, c.requires.begin) in
    let size : length (take n (drop at words)) ≡ n = omega (arith, length-take n (drop at words), length-drop at words, fits) in
    let none : (i : ℕ) → n ≤ i → bit_of rows i ≡ false = λ i h. ap (bit_of rows) (omega arith) ∙ sym (chosen_from at rows (at + i) (omega arith)) ∙ c.requires.none (at + i) (omega (arith, h)) in
    full_codes at rows n words c.fill_chosen.new.kept (λ i. c.args.code) c.requires.stored fits (c.fill_chosen.ensures.long ∙ size) (λ i. c.requires.fits)
    (λ i h. c.fill_chosen.ensures.each i (omega (arith, h, size))) none
