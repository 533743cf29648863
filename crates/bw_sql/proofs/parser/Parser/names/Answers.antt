use Rattle.std.proofs.Common.{◌≡◌, ◌∷◌, length, ap, rules, arith, [], Some}
use Rattle.std.proofs.lemmas.Result.{err_from_is_err_and}
use Rattle.bw_sql.specs.Reading.{after_comma, name_at, names_at}
use Rattle.bw_sql.proofs.ListRuns.{after_comma-none, done, fails_first, fails_next, first, next}
use Rattle.bw_sql.proofs.parser.Parser.names.Goals as goal

pub returns-in_err-name-clause-read : goal.returns-in_err-name-clause-read
unfolding names_at
returns-in_err-name-clause-read c n h =
    let p = err_from_is_err_and c.from_residual.result c.from_residual.ensures.1 in
    rw (p.1, p.2) (fails_first after_comma (λ _. name_at) _ _ (λ _ _. c.in_err-name.ensures.read) n h)

pub loop-names-init : goal.loop-names-init
loop-names-init c =
    let e : c.push.new.self.items ≡ c.in_ok-name.field-0 ∷ [] = search rules in
    rw e (first after_comma (λ _. name_at) _ _ _ c.in_ok-name.ensures.shorter (λ _ _. c.in_ok-name.ensures.read))

pub loop-names-preserved : goal.loop-names-preserved
loop-names-preserved c =
    let goes : after_comma c.loop-names.self.rest.now ≡ Some c.eat.new.self.rest.now = search rules in
    rw c.in_ok-push-2.ensures.items (next after_comma (λ _. name_at) _ _ _ c.loop-names.invariant _ _ _ goes (omega (arith, ap length c.loop-names-test.ensures)) c.in_ok-name-2.ensures.shorter (λ _ _. c.in_ok-name-2.ensures.read))

pub returns-in_err-name-2-clause-read : goal.returns-in_err-name-2-clause-read
unfolding names_at
returns-in_err-name-2-clause-read c n h =
    let goes : after_comma c.loop-names.self.rest.now ≡ Some c.eat.new.self.rest.now = search rules in
    let p = err_from_is_err_and c.from_residual-in_err-name-2.result c.from_residual-in_err-name-2.ensures.1 in
    rw (p.1, p.2) (fails_next after_comma (λ _. name_at) _ _ _ _ _ c.loop-names.invariant goes (omega (arith, ap length c.loop-names-test.ensures)) (λ _ _. c.in_err-name-2.ensures.read) n h)

pub returns-clause-read : goal.returns-clause-read
unfolding names_at
returns-clause-read c =
    let stops = c.loop-names-test.ensures in
    rw (stops.0, c.new.ensures) (done after_comma (λ _. name_at) _ _ _ c.loop-names.invariant (after_comma-none _ stops.1))
