use Rattle.std.proofs.Common.{FitsSigned, ap, drop, length, map, rules, take, w64, ◌++◌, ◌∙◌, ◌≡◌}
use Rattle.std.specs.List.{All}
use Rattle.std.proofs.lemmas.Int.{to_z-of_z}
use Rattle.bw_cells.specs.Distances.{distance_from}
use Rattle.bw_column.specs.Codes.{IsCoded}
use Rattle.bw_column.specs.Values.{IsNullOrHeld}
use Rattle.bw_column.proofs.Bases.{measured_rows}
use Rattle.bw_column.proofs.Held.{all_storable}
use Rattle.bw_column.proofs.Pieces.{all_here}
use Rattle.bw_column.proofs.column.Column.extend_distances.Goals as goal

pub extend_rows-requires-clause-rows : goal.extend_rows-requires-clause-rows
extend_rows-requires-clause-rows g c =
    let cells = g.C.Cells.cells c.args.cells.now in
    let at = c.args.at in
    let m = length c.args.codes.now in
    let column = c.args.self.now in
    let base = c.args.offset.base in
    let fits : FitsSigned w64 base = search rules in
    let distances : c.distances-present.new.out ≡ map (distance_from base) (take m (drop at cells)) = rw (to_z-of_z w64 base fits) at c.distances-present.ensures.distances in
    (measured_rows c.args.offset column.encoding (take m (drop at cells)) c.distances-present.new.out c.distances-present.result c.requires.encoding fits
    (all_here (IsCoded column.encoding) cells at m c.requires.coded) (all_storable column.layout (take m (drop at cells)) (all_here (IsNullOrHeld column.layout) cells at m c.requires.held)) distances c.distances-present.ensures.present).0

pub extend_rows-requires-clause-held : goal.extend_rows-requires-clause-held
extend_rows-requires-clause-held g c =
    let cells = g.C.Cells.cells c.args.cells.now in
    let at = c.args.at in
    let m = length c.args.codes.now in
    let column = c.args.self.now in
    let base = c.args.offset.base in
    let fits : FitsSigned w64 base = search rules in
    let distances : c.distances-present.new.out ≡ map (distance_from base) (take m (drop at cells)) = rw (to_z-of_z w64 base fits) at c.distances-present.ensures.distances in
    let here : All (IsNullOrHeld column.layout) (take m (drop at cells)) = all_here (IsNullOrHeld column.layout) cells at m c.requires.held in
    let rows =
    (measured_rows c.args.offset column.encoding (take m (drop at cells)) c.distances-present.new.out c.distances-present.result c.requires.encoding fits
    (all_here (IsCoded column.encoding) cells at m c.requires.coded) (all_storable column.layout (take m (drop at cells)) here) distances c.distances-present.ensures.present).1 in
    rw rows here

pub returns-clause-values : goal.returns-clause-values
returns-clause-values g c =
    let cells = g.C.Cells.cells c.args.cells.now in
    let at = c.args.at in
    let m = length c.args.codes.now in
    let column = c.args.self.now in
    let base = c.args.offset.base in
    let fits : FitsSigned w64 base = search rules in
    let distances : c.distances-present.new.out ≡ map (distance_from base) (take m (drop at cells)) = rw (to_z-of_z w64 base fits) at c.distances-present.ensures.distances in
    let rows =
    (measured_rows c.args.offset column.encoding (take m (drop at cells)) c.distances-present.new.out c.distances-present.result c.requires.encoding fits
    (all_here (IsCoded column.encoding) cells at m c.requires.coded) (all_storable column.layout (take m (drop at cells)) (all_here (IsNullOrHeld column.layout) cells at m c.requires.held)) distances c.distances-present.ensures.present).1 in
    c.extend_rows.ensures.values ∙ ap (λ ys. column.values ++ ys) rows
