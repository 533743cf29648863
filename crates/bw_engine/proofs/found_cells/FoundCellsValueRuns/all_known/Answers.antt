use Rattle.std.proofs.Common.{ap, arith, false, get_or, length, not, ℕ, ◌&&◌, ◌∙◌, ◌≡◌, sym}
use Rattle.bw_mask.specs.Masks.{row_at}
use Rattle.bw_engine.specs.Runs.{slots_of}
use Rattle.bw_engine.proofs.CellLaws.{cells_are, slots_long}
use Rattle.bw_engine.proofs.FoundRuns.{known_is}
use Rattle.bw_engine.proofs.found_cells.FoundCellsValueRuns.all_known.Goals as goal

pub andnot_in-requires : goal.andnot_in-requires
andnot_in-requires g c =
    let self = c.args.self.now in
    omega (arith, ap length c.in_ok-nulls.ensures, self.found_is, c.nonnull.ensures.len)

pub returns : goal.returns
returns g c =
    let self = c.args.self.now in
    let cells = g.C.SlotCells.cells self.cells.now in
    let both : (i : ℕ) → row_at c.andnot_in.new.self i ≡ (row_at self.found.now i && not (row_at c.nonnull.result.now i)) =
    λ i. c.andnot_in.ensures.rows i ∙ ap (λ rows. get_or rows i false && not (row_at c.nonnull.result.now i)) c.in_ok-nulls.ensures in
    known_is 0 (slots_of cells) self.found.now c.nonnull.result.now c.andnot_in.new.self cells c.any.result (self.found_is ∙ sym (slots_long cells)) (sym (slots_long cells)) (cells_are cells) c.nonnull.ensures.len c.nonnull.ensures.rows both c.any.ensures.rows c.any.ensures.none
