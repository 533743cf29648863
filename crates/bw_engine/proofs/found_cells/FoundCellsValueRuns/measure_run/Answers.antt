use Rattle.std.proofs.Common.{[], arith, get_or, length, min, of_z, subst, sym, to_z, w64, ◌*◌, ◌-◌, ◌∙◌, ◌∷◌, ◌≡◌}
use Rattle.std.proofs.lemmas.Int.{ints, to_z-of_z}
use Rattle.bw_mask.specs.Masks.{row_at}
use Rattle.bw_groups.specs.Runs.{IsMeasured}
use Rattle.bw_groups.proofs.Measured.{none_measured}
use Rattle.bw_engine.specs.Runs.{found_runs, slot_line, slots_of}
use Rattle.bw_engine.proofs.CellLaws.{slots_long}
use Rattle.bw_engine.proofs.FoundRuns.{run_at, runs_count}
use Rattle.bw_engine.proofs.RunLaws.{word_none}
use Rattle.bw_engine.proofs.found_cells.FoundCellsValueRuns.measure_run.Goals as goal

pub bounds-words-q : goal.bounds-words-q
bounds-words-q g c =
    let self = c.args.self.now in
    let cells = g.C.SlotCells.cells self.cells.now in
    omega (arith, c.requires, runs_count 0 (slots_of cells) (row_at self.found.now), slots_long cells, c.words.ensures.count, self.found_is)

pub offset_bounds-words-q : goal.offset_bounds-words-q
offset_bounds-words-q g c =
    let self = c.args.self.now in
    let cells = g.C.SlotCells.cells self.cells.now in
    omega (arith, c.requires, runs_count 0 (slots_of cells) (row_at self.found.now), slots_long cells, c.words.ensures.few, self.found_is)

pub measure_cells-requires-clause-inside : goal.measure_cells-requires-clause-inside
measure_cells-requires-clause-inside g c =
    let self = c.args.self.now in
    let cells = g.C.SlotCells.cells self.cells.now in
    omega (arith, c.requires, runs_count 0 (slots_of cells) (row_at self.found.now), slots_long cells)

pub returns-then-words-q-eq0 : goal.returns-then-words-q-eq0
returns-then-words-q-eq0 g c =
    let self = c.args.self.now in
    let slots = slots_of (g.C.SlotCells.cells self.cells.now) in
    let n = min (length slots - 64 * c.args.q) 64 in
    let none = word_none (slot_line (0 ∷ []) slots) (row_at self.found.now) c.words.result.now c.args.q n (omega arith) c.words.ensures.rows c.if-words-q-eq0.true in
    let is = run_at 0 slots (row_at self.found.now) c.args.q c.requires ∙ none in
    subst (λ r. IsMeasured c.args.base r 0 0 c.args.out.now) (sym is) (none_measured c.args.base 0 c.args.out.now)

pub returns : goal.returns
returns g c =
    let base = to_z w64 (of_z w64 c.args.base) in
    let same : base ≡ c.args.base = search (arith, ints, to_z-of_z) in
    let self = c.args.self.now in
    let slots = slots_of (g.C.SlotCells.cells self.cells.now) in
    let run = get_or (found_runs 0 slots (row_at self.found.now)) c.args.q [] in
    let is = run_at 0 slots (row_at self.found.now) c.args.q c.requires in
    let measured = subst (λ r. IsMeasured base r c.measure_cells.result.len c.measure_cells.result.present c.measure_cells.new.out) (sym is) c.measure_cells.ensures in
    subst (λ b. IsMeasured b run c.measure_cells.result.len c.measure_cells.result.present c.measure_cells.new.out) same measured
