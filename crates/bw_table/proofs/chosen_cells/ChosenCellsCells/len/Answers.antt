use Rattle.std.proofs.Common.{ap, length, sym, ◌∙◌}
use Rattle.std.proofs.lemmas.List.{length-map}
use Rattle.bw_column.specs.Values.{value_at}
use Rattle.bw_table.specs.Changes.{places}
use Rattle.bw_table.proofs.Places.{count_places}
use Rattle.bw_table.proofs.chosen_cells.ChosenCellsCells.len.Goals as goal

pub returns : goal.returns
returns c =
    let mask = c.self.inside.mask.now in
    c.count.ensures.rows ∙ sym (count_places mask) ∙ sym (length-map (places mask) (value_at c.self.inside.column.now.values)) ∙ ap length c.self.view_is
