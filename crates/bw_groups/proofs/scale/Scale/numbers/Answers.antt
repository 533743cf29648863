use Rattle.std.proofs.Common.{[], ap, arith, get_or, length, map, of_z, sym, take, to_z, w64, ◌++◌, ◌<◌, ◌∙◌, ◌≡◌}
use Rattle.std.proofs.lemmas.Int.{ints, to_z-of_z}
use Rattle.std.proofs.lemmas.List.{map-append}
use Rattle.bw_cells.specs.SetFunctions.{known}
use Rattle.bw_groups.specs.Runs.{IsWithin, values_in}
use Rattle.bw_groups.specs.Scales.{number_on}
use Rattle.bw_groups.proofs.Measured.{run_known}
use Rattle.bw_groups.proofs.Runs.{runs_all, runs_more, runs_none}
use Rattle.bw_groups.proofs.Scales.{below_null}
use Rattle.bw_groups.proofs.scale.Scale.numbers.Goals as goal

pub runs-init : goal.runs-init
runs-init g c = c.in_ok-numbers.ensures.items ∙ sym (ap (map (number_on c.args.self.now.ends.least c.args.self.now.null)) (runs_none (g.C.ValueRuns.runs c.args.column.now)))

pub put_numbers-requires : goal.put_numbers-requires
put_numbers-requires g c = omega (arith, c.measure_run-measured.ensures.long, c.measure_run-measured.ensures.few)

pub runs-preserved : goal.runs-preserved
runs-preserved g c =
    let self = c.args.self.now in
    let runs = g.C.ValueRuns.runs c.args.column.now in
    let number = number_on self.ends.least self.null in
    let low : c.runs.q < length runs = omega (arith, c.runs-test.true, c.run_count-q-end.ensures) in
    let run = get_or runs c.runs.q [] in
    let least : to_z w64 (of_z w64 self.ends.least) ≡ self.ends.least = search (arith, ints, to_z-of_z) in
    let all = below_null self.ends self.null (known run) self.above (run_known (IsWithin self.ends) runs c.runs.q low c.requires) in
    c.in_ok-put_numbers.ensures run (rw least at c.measure_run-measured.ensures) all
    ∙ ap (λ l. l ++ map number run) c.runs.invariant
    ∙ sym (map-append number (values_in (take c.runs.q runs)) run)
    ∙ ap (map number) (sym (runs_more runs c.runs.q low))

pub returns : goal.returns
returns g c =
    let runs = g.C.ValueRuns.runs c.args.column.now in
    c.runs.invariant ∙ ap (map (number_on c.args.self.now.ends.least c.args.self.now.null)) (runs_all runs c.runs.q (omega (arith, c.runs-test.false, c.run_count-q-end.ensures)))
