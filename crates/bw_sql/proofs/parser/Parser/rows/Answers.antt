use Rattle.std.proofs.Common.{◌≡◌, ◌∷◌, length, ap, rules, arith, [], Some}
use Rattle.std.proofs.lemmas.Result.{err_from_is_err_and}
use Rattle.bw_sql.specs.Reading.{after_comma, row_at, rows_at}
use Rattle.bw_sql.proofs.ListRuns.{after_comma-none, done, fails_first, fails_next}
use Rattle.bw_sql.proofs.RowRuns.{rows_first, rows_next}
use Rattle.bw_sql.proofs.parser.Parser.rows.Goals as goal

pub returns-in_err-row-clause-read : goal.returns-in_err-row-clause-read
unfolding rows_at
returns-in_err-row-clause-read c n h =
    let p = err_from_is_err_and c.from_residual.result c.from_residual.ensures.1 in
    rw (p.1, p.2) (fails_first after_comma row_at _ _ c.in_err-row.ensures.read n h)

pub loop-widths-init : goal.loop-widths-init
loop-widths-init c =
    let e : c.push.new.self.items ≡ c.in_ok-row.field-0 ∷ [] = search rules in
    rw e (rows_first _ _ _ _ (rw c.new-values.ensures.items at c.in_ok-row.ensures.read) c.in_ok-row.ensures.shorter)

pub returns-in_err-row-2-clause-read : goal.returns-in_err-row-2-clause-read
unfolding rows_at
returns-in_err-row-2-clause-read c n h =
    let goes : after_comma c.loop-widths.self.rest.now ≡ Some c.eat.new.self.rest.now = search rules in
    let p = err_from_is_err_and c.from_residual-in_err-row-2.result c.from_residual-in_err-row-2.ensures.1 in
    rw (p.1, p.2)
    (fails_next after_comma row_at _ _ _ _ _ c.loop-widths.invariant.runs goes (omega (arith, ap length c.loop-widths-test.ensures)) c.in_err-row-2.ensures.read n h)

pub loop-widths-preserved : goal.loop-widths-preserved
loop-widths-preserved c =
    let goes : after_comma c.loop-widths.self.rest.now ≡ Some c.eat.new.self.rest.now = search rules in
    rw c.in_ok-push-2.ensures.items
    (rows_next _ _ _ _ _ _ _ _ c.loop-widths.invariant c.in_ok-row-2.ensures.read goes (omega (arith, ap length c.loop-widths-test.ensures)) c.in_ok-row-2.ensures.shorter)

pub returns-clause-read : goal.returns-clause-read
unfolding rows_at
returns-clause-read c n h =
    let stops = c.loop-widths-test.ensures in
    rw (stops.0, c.new.ensures) (done after_comma row_at _ _ _ c.loop-widths.invariant.runs (after_comma-none _ stops.1) n h)
