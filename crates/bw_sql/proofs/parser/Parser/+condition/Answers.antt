use Rattle.std.proofs.Common.{◌≡◌, length, ap, rules, arith, [], Some}
use Rattle.std.proofs.lemmas.Result.{err_from_is_err_and}
use Rattle.bw_sql.specs.Reading.{after_and, after_or, factor_by, primary_at, term_by}
use Rattle.bw_sql.proofs.ListRuns.{after_and-none, after_or-none, conditions_push, done, fails_first, fails_next, first, next}
use Rattle.bw_sql.proofs.parser.Parser.+condition.Goals as goal

pub terms-returns-in_err-term-clause-read : goal.terms-returns-in_err-term-clause-read
terms-returns-in_err-term-clause-read t c n h =
    let p = err_from_is_err_and c.from_residual.result c.from_residual.ensures.1 in
    rw (p.1, p.2) (fails_first after_or (λ n. term_by (primary_at n) n) _ _ c.in_err-term.ensures.read n h)

pub terms-loop-parts-init : goal.terms-loop-parts-init
terms-loop-parts-init t c =
    rw (conditions_push [] c.push.new.self.items c.in_ok-term.field-0 (search rules)) (first after_or (λ n. term_by (primary_at n) n) _ _ _ c.in_ok-term.ensures.shorter c.in_ok-term.ensures.read)

pub terms-loop-parts-preserved : goal.terms-loop-parts-preserved
terms-loop-parts-preserved t c =
    let goes : after_or c.loop-parts.self.rest.now ≡ Some c.eat_word.new.self.rest.now = search rules in
    rw (conditions_push c.loop-parts.parts.items c.push-in-loop-parts.new.self.items c.in_ok-term-2.field-0 (search rules)) (next after_or (λ n. term_by (primary_at n) n) _ _ _ c.loop-parts.invariant _ _ _ goes (omega (arith, ap length c.loop-parts-test.ensures)) c.in_ok-term-2.ensures.shorter c.in_ok-term-2.ensures.read)

pub terms-returns-in_err-term-2-clause-read : goal.terms-returns-in_err-term-2-clause-read
terms-returns-in_err-term-2-clause-read t c n h =
    let goes : after_or c.loop-parts.self.rest.now ≡ Some c.eat_word.new.self.rest.now = search rules in
    let p = err_from_is_err_and c.from_residual-in_err-term-2.result c.from_residual-in_err-term-2.ensures.1 in
    rw (p.1, p.2) (fails_next after_or (λ n. term_by (primary_at n) n) _ _ _ _ _ c.loop-parts.invariant goes (omega (arith, ap length c.loop-parts-test.ensures)) c.in_err-term-2.ensures.read n h)

pub terms-returns-clause-read : goal.terms-returns-clause-read
terms-returns-clause-read t c =
    let stops = c.loop-parts-test.ensures in
    rw stops.0 (done after_or (λ n. term_by (primary_at n) n) _ _ _ c.loop-parts.invariant (after_or-none _ stops.1))

pub factors-returns-in_err-factor-clause-read : goal.factors-returns-in_err-factor-clause-read
factors-returns-in_err-factor-clause-read t c n h =
    let p = err_from_is_err_and c.from_residual.result c.from_residual.ensures.1 in
    rw (p.1, p.2) (fails_first after_and (λ n. factor_by (primary_at n)) _ _ c.in_err-factor.ensures.read n h)

pub factors-loop-parts-init : goal.factors-loop-parts-init
factors-loop-parts-init t c =
    rw (conditions_push [] c.push.new.self.items c.in_ok-factor.field-0 (search rules)) (first after_and (λ n. factor_by (primary_at n)) _ _ _ c.in_ok-factor.ensures.shorter c.in_ok-factor.ensures.read)

pub factors-loop-parts-preserved : goal.factors-loop-parts-preserved
factors-loop-parts-preserved t c =
    let goes : after_and c.loop-parts.self.rest.now ≡ Some c.eat_word.new.self.rest.now = search rules in
    rw (conditions_push c.loop-parts.parts.items c.push-in-loop-parts.new.self.items c.in_ok-factor-2.field-0 (search rules)) (next after_and (λ n. factor_by (primary_at n)) _ _ _ c.loop-parts.invariant _ _ _ goes (omega (arith, ap length c.loop-parts-test.ensures)) c.in_ok-factor-2.ensures.shorter c.in_ok-factor-2.ensures.read)

pub factors-returns-in_err-factor-2-clause-read : goal.factors-returns-in_err-factor-2-clause-read
factors-returns-in_err-factor-2-clause-read t c n h =
    let goes : after_and c.loop-parts.self.rest.now ≡ Some c.eat_word.new.self.rest.now = search rules in
    let p = err_from_is_err_and c.from_residual-in_err-factor-2.result c.from_residual-in_err-factor-2.ensures.1 in
    rw (p.1, p.2) (fails_next after_and (λ n. factor_by (primary_at n)) _ _ _ _ _ c.loop-parts.invariant goes (omega (arith, ap length c.loop-parts-test.ensures)) c.in_err-factor-2.ensures.read n h)

pub factors-returns-clause-read : goal.factors-returns-clause-read
factors-returns-clause-read t c =
    let stops = c.loop-parts-test.ensures in
    rw stops.0 (done after_and (λ n. factor_by (primary_at n)) _ _ _ c.loop-parts.invariant (after_and-none _ stops.1))
