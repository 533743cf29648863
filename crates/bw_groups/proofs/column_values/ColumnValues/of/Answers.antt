use Rattle.std.proofs.Common.{[], ap, arith, get_or, length, sym, ◌++◌, ◌<◌, ◌∙◌}
use Rattle.bw_groups.proofs.Runs.{runs_all, runs_more, runs_none}
use Rattle.bw_groups.proofs.column_values.ColumnValues.of.Goals as goal

pub runs-init : goal.runs-init
runs-init g c = c.in_ok-all.ensures ∙ sym (runs_none (g.C.ValueRuns.runs c.args.column.now))

pub with_run-requires : goal.with_run-requires
with_run-requires g c = omega (arith, ap length c.deref.ensures.value, c.in_ok-read_run.ensures.few)

pub runs-preserved : goal.runs-preserved
runs-preserved g c =
    let runs = g.C.ValueRuns.runs c.args.column.now in
    let low : c.runs.q < length runs = omega (arith, c.runs-test.true, c.run_count-q-end.ensures) in
    c.in_ok-all-2.ensures
    ∙ ap (λ l. c.runs.all ++ l) (c.deref.ensures.value ∙ c.in_ok-read_run.ensures.values)
    ∙ ap (λ l. l ++ get_or runs c.runs.q []) c.runs.invariant
    ∙ sym (runs_more runs c.runs.q low)

pub returns : goal.returns
returns g c =
    let runs = g.C.ValueRuns.runs c.args.column.now in
    c.runs.invariant ∙ runs_all runs c.runs.q (omega (arith, c.runs-test.false, c.run_count-q-end.ensures))
