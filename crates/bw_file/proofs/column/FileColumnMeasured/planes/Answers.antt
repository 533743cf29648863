use Rattle.std.proofs.Common.{FitsSigned, [], get_or, ap, drop, map, rules, slice_index, subst, sym, take, w64, ℕ, ◌<◌, ◌∙◌, ◌≡◌}
use Rattle.std.specs.Option.{IfSome}
use Rattle.std.proofs.lemmas.Int.{to_z-of_z}
use Rattle.bw_cells.specs.Distances.{distance_from}
use Rattle.bw_mask.specs.Masks.{bit_of, row_in}
use Rattle.bw_file.specs.Lent.{lent_cells}
use Rattle.bw_file.proofs.column.FileColumnMeasured.planes.Goals as goal

pub returns-in-Planes-clause-planes : goal.returns-in-Planes-clause-planes
returns-in-Planes-clause-planes c =
    let fits : FitsSigned w64 c.args.base = search rules in
    let cells : c.in-Planes.column ≡ c.args.self.now = sym (ap lent_cells c.in-Planes.is) ∙ c.self.view_is in
    subst
    (λ xs. IfSome c.planes.result (λ present. (b r : ℕ) → b < c.args.k → r < 2048 → row_in (get_or c.planes.new.block b []) r ≡ bit_of (slice_index (map (distance_from c.args.base) (take c.args.count (drop c.args.at xs))) r) b))
    cells (rw (to_z-of_z w64 c.args.base fits) at c.planes.ensures.planes)
