use Rattle.std.proofs.Common.{ap, map, sym, ◌∙◌}
use Rattle.bw_model.specs.Store.{names, place_of}
use Rattle.bw_model.proofs.Items.{columns_of_names}
use Rattle.bw_plan.proofs.Selecting.{columns_apart}
use Rattle.bw_plan.proofs.select.shown_plan.Goals as goal

pub returns-in_ok-all_places-in-None-All : goal.returns-in_ok-all_places-in-None-All
returns-in_ok-all_places-in-None-All c =
    let headers = c.args.headers.now in
    rw (c.in-None-All.is-0, c.in-None-All.is-1)
    (columns_apart (names headers), c.in_ok-all_places-in-None-All.ensures ∙ ap (map (place_of headers)) (sym (columns_of_names (names headers))))
