use Rattle.std.proofs.Common.{[], ap, arith, get_or, length, ◌≡◌, ◌≤◌}
use Rattle.std.proofs.lemmas.Result.{on_ok_weaker}
use Rattle.bw_mask.specs.Masks.{row_at}
use Rattle.bw_engine.specs.Runs.{found_runs, slots_of}
use Rattle.bw_engine.proofs.found_cells.FoundCellsValueRuns.read_run.Goals as goal

pub put_measured-requires : goal.put_measured-requires
put_measured-requires g c = omega (arith, c.measure_run-measured.ensures.few, c.measure_run-measured.ensures.long)

pub returns : goal.returns
returns g c =
    let self = c.args.self.now in
    let run = get_or (found_runs 0 (slots_of (g.C.SlotCells.cells self.cells.now)) (row_at self.found.now)) c.args.q [] in
    let put = c.put_measured.ensures run c.measure_run-measured.ensures in
    record {
      few = on_ok_weaker c.put_measured.result (λ (is : c.put_measured.new.run.items ≡ run). omega (arith, ap length is, c.measure_run-measured.ensures.few)) put;
      values = put;
    }
