use Rattle.std.proofs.Common.{◌≡◌, ◌∷◌, length, ap, rules, arith, [], Some}
use Rattle.std.proofs.lemmas.Result.{err_from_is_err_and}
use Rattle.bw_sql.specs.Reading.{after_comma, column_at, columns_at}
use Rattle.bw_sql.proofs.ListRuns.{after_comma-none, done, fails_first, fails_next, first, next}
use Rattle.bw_sql.proofs.parser.Parser.columns.Goals as goal

pub returns-in_err-column-clause-read : goal.returns-in_err-column-clause-read
unfolding columns_at
returns-in_err-column-clause-read c n h =
    let p = err_from_is_err_and c.from_residual.result c.from_residual.ensures.1 in
    rw (p.1, p.2) (fails_first after_comma (λ _. column_at) _ _ (λ _ _. c.in_err-column.ensures.read) n h)

pub loop-columns-init : goal.loop-columns-init
loop-columns-init c =
    let e : c.push.new.self.items ≡ c.in_ok-column.field-0 ∷ [] = search rules in
    rw e (first after_comma (λ _. column_at) _ _ _ c.in_ok-column.ensures.shorter (λ _ _. c.in_ok-column.ensures.read))

pub loop-columns-preserved : goal.loop-columns-preserved
loop-columns-preserved c =
    let goes : after_comma c.loop-columns.self.rest.now ≡ Some c.eat.new.self.rest.now = search rules in
    rw c.in_ok-push-2.ensures.items (next after_comma (λ _. column_at) _ _ _ c.loop-columns.invariant _ _ _ goes (omega (arith, ap length c.loop-columns-test.ensures)) c.in_ok-column-2.ensures.shorter (λ _ _. c.in_ok-column-2.ensures.read))

pub returns-in_err-column-2-clause-read : goal.returns-in_err-column-2-clause-read
unfolding columns_at
returns-in_err-column-2-clause-read c n h =
    let goes : after_comma c.loop-columns.self.rest.now ≡ Some c.eat.new.self.rest.now = search rules in
    let p = err_from_is_err_and c.from_residual-in_err-column-2.result c.from_residual-in_err-column-2.ensures.1 in
    rw (p.1, p.2) (fails_next after_comma (λ _. column_at) _ _ _ _ _ c.loop-columns.invariant goes (omega (arith, ap length c.loop-columns-test.ensures)) (λ _ _. c.in_err-column-2.ensures.read) n h)

pub returns-clause-read : goal.returns-clause-read
unfolding columns_at
returns-clause-read c =
    let stops = c.loop-columns-test.ensures in
    rw stops.0 (done after_comma (λ _. column_at) _ _ _ c.loop-columns.invariant (after_comma-none _ stops.1))
