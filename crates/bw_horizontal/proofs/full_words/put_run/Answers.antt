use Rattle.std.proofs.Common.{arith, drop, get_or, length, length-drop, length-take, take, ◌+◌, ◌-◌, ◌≡◌, ◌≤◌, ◌∙◌}
use Rattle.bw_code.proofs.Runs.{fit_at}
use Rattle.bw_horizontal.proofs.FullWords.{full_codes, full_stored}
use Rattle.bw_horizontal.proofs.full_words.put_run.Goals as goal

pub returns-clause-stored : goal.returns-clause-stored
returns-clause-stored c =
    let at = c.args.at in
    let codes = c.args.codes.now in
    let words = c.args.words.now in
    let n = at + length codes - at in
    let fits : at + n ≤ length words = omega (arith, c.requires.there) in
    let size : length (take n (drop at words)) ≡ n = omega (arith, length-take n (drop at words), length-drop at words, fits) in
    full_stored at c.args.rows n words c.put_chosen.new.kept (λ i. get_or codes i 0) c.requires.stored fits (c.put_chosen.ensures.long ∙ size) (fit_at 32 codes c.requires.fit)
    (λ i h. c.put_chosen.ensures.each i (omega (arith, h, size))) (λ i h. c.requires.given i (omega (arith, h)))

pub returns-clause-codes : goal.returns-clause-codes
returns-clause-codes c =
    let at = c.args.at in
    let codes = c.args.codes.now in
    let words = c.args.words.now in
    let n = at + length codes - at in
    let fits : at + n ≤ length words = omega (arith, c.requires.there) in
    let size : length (take n (drop at words)) ≡ n = omega (arith, length-take n (drop at words), length-drop at words, fits) in
    full_codes at c.args.rows n words c.put_chosen.new.kept (λ i. get_or codes i 0) c.requires.stored fits (c.put_chosen.ensures.long ∙ size) (fit_at 32 codes c.requires.fit)
    (λ i h. c.put_chosen.ensures.each i (omega (arith, h, size))) (λ i h. c.requires.given i (omega (arith, h)))
