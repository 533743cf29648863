use Rattle.std.proofs.Common.{ap, replicate, ◌∙◌}
use Rattle.bw_dictionary.proofs.Encoded.{no_entries, null_places}
use Rattle.bw_dictionary.proofs.ranked_cells.rank_nulls.Goals as goal

pub returns : goal.returns
returns g c =
    let cells = g.C.Cells.cells c.args.cells.now in
    let entries = c.new.result.items in
    let places = c.in_ok-from_elem.field-0.items in
    record {
      entries = no_entries cells entries places c.requires c.new.ensures.items;
      places = null_places cells entries places c.requires c.new.ensures.items (c.in_ok-from_elem.ensures.items_if_clones_equal (λ y h. h) ∙ ap (λ n. replicate n 0) c.len.ensures);
    }
