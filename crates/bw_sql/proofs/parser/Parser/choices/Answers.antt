use Rattle.std.proofs.Common.{◌≡◌, ◌∷◌, length, ap, rules, arith, [], Some}
use Rattle.std.proofs.lemmas.Result.{err_from_is_err_and}
use Rattle.bw_sql.specs.Reading.{after_comma, choice_at, choices_at}
use Rattle.bw_sql.proofs.ListRuns.{after_comma-none, done, fails_first, fails_next, first, next}
use Rattle.bw_sql.proofs.parser.Parser.choices.Goals as goal

pub returns-in_err-choice-clause-read : goal.returns-in_err-choice-clause-read
unfolding choices_at
returns-in_err-choice-clause-read c n h =
    let p = err_from_is_err_and c.from_residual.result c.from_residual.ensures.1 in
    rw (p.1, p.2) (fails_first after_comma (λ _. choice_at) _ _ (λ _ _. c.in_err-choice.ensures.read) n h)

pub loop-choices-init : goal.loop-choices-init
loop-choices-init c =
    let e : c.push.new.self.items ≡ c.in_ok-choice.field-0 ∷ [] = search rules in
    rw e (first after_comma (λ _. choice_at) _ _ _ c.in_ok-choice.ensures.shorter (λ _ _. c.in_ok-choice.ensures.read))

pub loop-choices-preserved : goal.loop-choices-preserved
loop-choices-preserved c =
    let goes : after_comma c.loop-choices.self.rest.now ≡ Some c.eat.new.self.rest.now = search rules in
    rw c.in_ok-push-2.ensures.items (next after_comma (λ _. choice_at) _ _ _ c.loop-choices.invariant _ _ _ goes (omega (arith, ap length c.loop-choices-test.ensures)) c.in_ok-choice-2.ensures.shorter (λ _ _. c.in_ok-choice-2.ensures.read))

pub returns-in_err-choice-2-clause-read : goal.returns-in_err-choice-2-clause-read
unfolding choices_at
returns-in_err-choice-2-clause-read c n h =
    let goes : after_comma c.loop-choices.self.rest.now ≡ Some c.eat.new.self.rest.now = search rules in
    let p = err_from_is_err_and c.from_residual-in_err-choice-2.result c.from_residual-in_err-choice-2.ensures.1 in
    rw (p.1, p.2) (fails_next after_comma (λ _. choice_at) _ _ _ _ _ c.loop-choices.invariant goes (omega (arith, ap length c.loop-choices-test.ensures)) (λ _ _. c.in_err-choice-2.ensures.read) n h)

pub returns-clause-read : goal.returns-clause-read
unfolding choices_at
returns-clause-read c =
    let stops = c.loop-choices-test.ensures in
    rw stops.0 (done after_comma (λ _. choice_at) _ _ _ c.loop-choices.invariant (after_comma-none _ stops.1))
