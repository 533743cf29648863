use Rattle.std.proofs.Common.{FitsSigned, ap, arith, drop, get_or, length, length-drop, length-take, map, of_z, rules, subst, sym, take, to_z, w64, ◌++◌, ◌≡◌, ◌∙◌}
use Rattle.std.specs.List.{All}
use Rattle.std.proofs.lemmas.Int.{to_z-of_z}
use Rattle.bw_mask.specs.Masks.{bit_of}
use Rattle.bw_cells.specs.Distances.{distance_from}
use Rattle.bw_code.specs.declared.encoding.Encoding.TheVariants as by
use Rattle.bw_column.specs.Codes.{IsCoded}
use Rattle.bw_column.specs.Columns.{ColumnView}
use Rattle.bw_column.specs.PlaneSources.{ArePlanesOf}
use Rattle.bw_column.specs.Values.{IsNullOrHeld}
use Rattle.bw_column.proofs.Pieces.{all_here}
use Rattle.bw_column.proofs.column.Column.extend_part.Goals as goal

pub extend_planes-requires-clause-cells : goal.extend_planes-requires-clause-cells
extend_planes-requires-clause-cells g c =
    let cells = g.C.Cells.cells c.args.cells.now in
    let o = c.args.offset in
    let fits : FitsSigned w64 o.base = search rules in
    let same : to_z w64 (of_z w64 o.base) ≡ o.base = to_z-of_z w64 o.base fits in
    let run = take c.args.n (drop c.args.at cells) in
    let long : length run ≡ c.args.n = omega (arith, length-take c.args.n (drop c.args.at cells), length-drop c.args.at cells, c.requires.inside) in
    let coded : All (IsCoded (by.Offset o)) cells = subst (λ e. All (IsCoded e) cells) c.requires.encoding c.requires.coded in
    let are : ArePlanesOf o.width o.base run c.planes.new.block c.in-Some.present = record {
      planes = λ b r low h. c.in-Some.ensures.planes b r low h ∙ ap (λ z. bit_of (get_or (map (distance_from z) run) r 0) b) same;
      present = c.in-Some.ensures.present;
    } in
    (run, long, all_here (IsCoded (by.Offset o)) cells c.args.at c.args.n coded, all_here (IsNullOrHeld c.args.self.now.layout) cells c.args.at c.args.n c.requires.held, are)

pub extend_codes-requires-clause-cells : goal.extend_codes-requires-clause-cells
extend_codes-requires-clause-cells g c =
    let cells = g.C.Cells.cells c.args.cells.now in
    let o = c.args.offset in
    let fits : FitsSigned w64 o.base = search rules in
    let same : to_z w64 (of_z w64 o.base) ≡ o.base = to_z-of_z w64 o.base fits in
    let run = take c.args.n (drop c.args.at cells) in
    let long : length run ≡ c.args.n = omega (arith, length-take c.args.n (drop c.args.at cells), length-drop c.args.at cells, c.requires.inside) in
    let coded : All (IsCoded (by.Offset o)) cells = subst (λ e. All (IsCoded e) cells) c.requires.encoding c.requires.coded in
    let are : ArePlanesOf o.width o.base run c.planes.new.block c.in-Some.present = record {
      planes = λ b r low h. c.in-Some.ensures.planes b r low h ∙ ap (λ z. bit_of (get_or (map (distance_from z) run) r 0) b) same;
      present = c.in-Some.ensures.present;
    } in
    let stays : c.extend_planes.new.self ≡ c.args.self.now = c.extend_planes.ensures.same c.if-not-extend_planes.true in
    let layout : c.extend_planes.new.self.layout ≡ c.args.self.now.layout = ap (λ (v : ColumnView). v.layout) stays in
    let held : All (IsNullOrHeld c.extend_planes.new.self.layout) cells = subst (λ l. All (IsNullOrHeld l) cells) (sym layout) c.requires.held in
    (run, long, all_here (IsCoded (by.Offset o)) cells c.args.at c.args.n coded, all_here (IsNullOrHeld c.extend_planes.new.self.layout) cells c.args.at c.args.n held, are)

pub returns-then-not-extend_planes-clause-values : goal.returns-then-not-extend_planes-clause-values
returns-then-not-extend_planes-clause-values g c =
    let cells = g.C.Cells.cells c.args.cells.now in
    let o = c.args.offset in
    let fits : FitsSigned w64 o.base = search rules in
    let same : to_z w64 (of_z w64 o.base) ≡ o.base = to_z-of_z w64 o.base fits in
    let run = take c.args.n (drop c.args.at cells) in
    let long : length run ≡ c.args.n = omega (arith, length-take c.args.n (drop c.args.at cells), length-drop c.args.at cells, c.requires.inside) in
    let coded : All (IsCoded (by.Offset o)) cells = subst (λ e. All (IsCoded e) cells) c.requires.encoding c.requires.coded in
    let are : ArePlanesOf o.width o.base run c.planes.new.block c.in-Some.present = record {
      planes = λ b r low h. c.in-Some.ensures.planes b r low h ∙ ap (λ z. bit_of (get_or (map (distance_from z) run) r 0) b) same;
      present = c.in-Some.ensures.present;
    } in
    let stays : c.extend_planes.new.self ≡ c.args.self.now = c.extend_planes.ensures.same c.if-not-extend_planes.true in
    let layout : c.extend_planes.new.self.layout ≡ c.args.self.now.layout = ap (λ (v : ColumnView). v.layout) stays in
    let held : All (IsNullOrHeld c.extend_planes.new.self.layout) cells = subst (λ l. All (IsNullOrHeld l) cells) (sym layout) c.requires.held in
    c.extend_codes.ensures.values run long (all_here (IsCoded (by.Offset o)) cells c.args.at c.args.n coded) (all_here (IsNullOrHeld c.extend_planes.new.self.layout) cells c.args.at c.args.n held) are
    ∙ ap (λ (v : ColumnView). v.values ++ run) stays

pub returns-else-not-extend_planes-clause-values : goal.returns-else-not-extend_planes-clause-values
returns-else-not-extend_planes-clause-values g c =
    let cells = g.C.Cells.cells c.args.cells.now in
    let o = c.args.offset in
    let fits : FitsSigned w64 o.base = search rules in
    let same : to_z w64 (of_z w64 o.base) ≡ o.base = to_z-of_z w64 o.base fits in
    let run = take c.args.n (drop c.args.at cells) in
    let long : length run ≡ c.args.n = omega (arith, length-take c.args.n (drop c.args.at cells), length-drop c.args.at cells, c.requires.inside) in
    let coded : All (IsCoded (by.Offset o)) cells = subst (λ e. All (IsCoded e) cells) c.requires.encoding c.requires.coded in
    let are : ArePlanesOf o.width o.base run c.planes.new.block c.in-Some.present = record {
      planes = λ b r low h. c.in-Some.ensures.planes b r low h ∙ ap (λ z. bit_of (get_or (map (distance_from z) run) r 0) b) same;
      present = c.in-Some.ensures.present;
    } in
    c.extend_planes.ensures.values c.if-not-extend_planes.false run long (all_here (IsCoded (by.Offset o)) cells c.args.at c.args.n coded) (all_here (IsNullOrHeld c.args.self.now.layout) cells c.args.at c.args.n c.requires.held) are
