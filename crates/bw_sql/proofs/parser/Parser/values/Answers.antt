use Rattle.std.proofs.Common.{◌≡◌, length, ap, rules, arith, Some}
use Rattle.std.proofs.lemmas.Result.{err_from_is_err_and}
use Rattle.bw_sql.specs.Reading.{after_comma}
use Rattle.bw_sql.proofs.ListRuns.{after_comma-none}
use Rattle.bw_sql.proofs.RowRuns.{values_done, values_fail_first, values_fail_next, values_first, values_next}
use Rattle.bw_sql.proofs.parser.Parser.values.Goals as goal

pub returns-in_err-value-clause-read : goal.returns-in_err-value-clause-read
returns-in_err-value-clause-read c =
    let p = err_from_is_err_and c.from_residual.result c.from_residual.ensures.1 in
    rw (p.1, p.2) (λ n h. values_fail_first _ _ c.in_err-value.ensures.read n h)

pub loop-values-init : goal.loop-values-init
loop-values-init c = values_first _ _ _ _ _ c.in_ok-push.ensures.items c.in_ok-value.ensures.shorter c.in_ok-value.ensures.read

pub returns-in_err-value-2-clause-read : goal.returns-in_err-value-2-clause-read
returns-in_err-value-2-clause-read c =
    let goes : after_comma c.loop-values.self.rest.now ≡ Some c.eat.new.self.rest.now = search rules in
    let p = err_from_is_err_and c.from_residual-in_err-value-2.result c.from_residual-in_err-value-2.ensures.1 in
    rw (p.1, p.2)
    (λ n h. values_fail_next _ _ _ _ _ _ _ c.loop-values.invariant goes (omega (arith, ap length c.loop-values-test.ensures)) c.in_err-value-2.ensures.read n h)

pub loop-values-preserved : goal.loop-values-preserved
loop-values-preserved c =
    let goes : after_comma c.loop-values.self.rest.now ≡ Some c.eat.new.self.rest.now = search rules in
    values_next _ _ _ _ _ _ _ _ _ c.loop-values.invariant c.in_ok-push-2.ensures.items goes (omega (arith, ap length c.loop-values-test.ensures)) c.in_ok-value-2.ensures.shorter c.in_ok-value-2.ensures.read

pub returns-clause-read : goal.returns-clause-read
returns-clause-read c =
    let stops = c.loop-values-test.ensures in
    rw stops.0 (values_done _ _ _ _ _ c.loop-values.invariant (after_comma-none _ stops.1))
