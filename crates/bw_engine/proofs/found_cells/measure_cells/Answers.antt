use Rattle.std.proofs.Common.{None, [], ap, arith, drop, get_or, is_some, length, map, min, of_z, subst, take, to_z, w64, ℕ, ◌+◌, ◌-◌, ◌≤◌, ◌∙◌, ◌∷◌, ◌≡◌}
use Rattle.std.proofs.lemmas.Int.{ints, to_z-of_z}
use Rattle.bw_mask.specs.Masks.{row_at}
use Rattle.bw_cells.specs.Distances.{distance_from}
use Rattle.bw_groups.specs.Runs.{IsMeasured}
use Rattle.bw_engine.specs.Runs.{found_run, lines_from, slot_line, slots_of}
use Rattle.bw_engine.proofs.CellLaws.{cells_are, slots_long}
use Rattle.bw_engine.proofs.MeasuredRuns.{found_lines, measured_whole}
use Rattle.bw_engine.proofs.RunLaws.{all_found, values_all, word_inside}
use Rattle.bw_engine.proofs.found_cells.measure_cells.Goals as goal

pub distances-present-requires-clause-inside : goal.distances-present-requires-clause-inside
distances-present-requires-clause-inside g c =
    let inside = word_inside c.args.found.now c.bits.result c.args.at c.bits.ensures c.if-bits.true in
    omega (arith, inside, c.requires.found, c.told-out)

pub returns-then-bits : goal.returns-then-bits
returns-then-bits g c =
    let base = to_z w64 (of_z w64 c.args.base) in
    let same : base ≡ c.args.base = search (arith, ints, to_z-of_z) in
    let cells = g.C.SlotCells.cells c.args.cells.now in
    let slots = slots_of cells in
    let at = c.args.at in
    let found = c.args.found.now in
    let inside = word_inside found c.bits.result at c.bits.ensures c.if-bits.true in
    let long = slots_long cells in
    let all : 64 ≡ min (length slots - at) 64 = omega (arith, inside, c.requires.found, long) in
    let within : at + 64 ≤ length cells = omega (arith, inside, c.requires.found) in
    let run = values_all 0 slots cells (row_at found) 64 at within (cells_are cells) (all_found found c.bits.result at c.bits.ensures c.if-bits.true) ∙ ap (lines_from (slot_line (0 ∷ []) slots) (row_at found) at) all in
    let far = c.distances-present.ensures.distances ∙ ap (λ n. map (distance_from base) (take n (drop at cells))) c.told-out in
    let there : (i : ℕ) → _ = λ i. c.distances-present.ensures.present i ∙ ap (λ n. is_some (get_or (take n (drop at cells)) i None)) c.told-out in
    subst (λ b. IsMeasured b (found_run cells (row_at found) at) 64 c.distances-present.result c.distances-present.new.out) same
    (measured_whole base cells (found_run cells (row_at found) at) at c.distances-present.result c.distances-present.new.out c.len-fit.ensures.fit within run far there)

pub fetch_cells-requires-clause-inside : goal.fetch_cells-requires-clause-inside
fetch_cells-requires-clause-inside g c = omega (arith, c.requires.found, c.requires.inside, c.min-n.ensures, c.len.ensures.rows)

pub gather_cells-requires-clause-inside : goal.gather_cells-requires-clause-inside
gather_cells-requires-clause-inside g c = omega (arith, c.requires.found, c.requires.inside, c.min-n.ensures, c.len.ensures.rows)

pub returns-then-word-le-FEW : goal.returns-then-word-le-FEW
returns-then-word-le-FEW g c =
    let base = to_z w64 (of_z w64 c.args.base) in
    let same : base ≡ c.args.base = search (arith, ints, to_z-of_z) in
    let cells = g.C.SlotCells.cells c.args.cells.now in
    let slots = slots_of cells in
    let at = c.args.at in
    let found = c.args.found.now in
    let n = c.min-n.result in
    let inside : at + n ≤ length cells = omega (arith, c.requires.found, c.requires.inside, c.min-n.ensures, c.len.ensures.rows) in
    let many : n ≡ min (length slots - at) 64 = omega (arith, c.min-n.ensures, c.len.ensures.rows, c.requires.found, slots_long cells) in
    let lines = found_lines 0 slots cells found c.bits-word.result at n c.bits-word.ensures inside (cells_are cells) ∙ ap (lines_from (slot_line (0 ∷ []) slots) (row_at found) at) many in
    subst (λ b. IsMeasured b (found_run cells (row_at found) at) c.fetch_cells.result.len c.fetch_cells.result.present c.fetch_cells.new.out) same
    (subst (λ l. IsMeasured base l c.fetch_cells.result.len c.fetch_cells.result.present c.fetch_cells.new.out) lines c.fetch_cells.ensures)

pub returns : goal.returns
returns g c =
    let base = to_z w64 (of_z w64 c.args.base) in
    let same : base ≡ c.args.base = search (arith, ints, to_z-of_z) in
    let cells = g.C.SlotCells.cells c.args.cells.now in
    let slots = slots_of cells in
    let at = c.args.at in
    let found = c.args.found.now in
    let n = c.min-n.result in
    let inside : at + n ≤ length cells = omega (arith, c.requires.found, c.requires.inside, c.min-n.ensures, c.len.ensures.rows) in
    let many : n ≡ min (length slots - at) 64 = omega (arith, c.min-n.ensures, c.len.ensures.rows, c.requires.found, slots_long cells) in
    let lines = found_lines 0 slots cells found c.bits-word.result at n c.bits-word.ensures inside (cells_are cells) ∙ ap (lines_from (slot_line (0 ∷ []) slots) (row_at found) at) many in
    subst (λ b. IsMeasured b (found_run cells (row_at found) at) c.gather_cells.result.len c.gather_cells.result.present c.gather_cells.new.out) same
    (subst (λ l. IsMeasured base l c.gather_cells.result.len c.gather_cells.result.present c.gather_cells.new.out) lines c.gather_cells.ensures)
