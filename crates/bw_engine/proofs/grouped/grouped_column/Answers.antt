use Rattle.std.proofs.Common.{ap, get_or, length, subst, sym, ◌∙◌}
use Rattle.bw_aggregate.specs.Summaries.{IsSummary}
use Rattle.bw_cells.specs.SetFunctions.{known}
use Rattle.bw_groups.specs.Grouping.{members}
use Rattle.std.proofs.lemmas.List.{length-map}
use Rattle.bw_mask.specs.Masks.{row_at}
use Rattle.bw_model.specs.Store.{Row, value_at}
use Rattle.bw_engine.specs.Found.{rows_where}
use Rattle.bw_engine.specs.GroupLines.{column_in}
use Rattle.bw_engine.specs.Stores.{rows_of_slots}
use Rattle.bw_engine.proofs.CellLaws.{column_found}
use Rattle.bw_engine.proofs.GroupShows.{tells_items}
use Rattle.bw_engine.proofs.grouped.grouped_column.Goals as goal

pub of-requires : goal.of-requires
of-requires c =
    ap length (column_found c.args.place c.args.table.now.slots c.column.result.now.values (row_at c.args.found.now) c.column.ensures.values)
    ∙ length-map (rows_where (row_at c.args.found.now) (rows_of_slots c.args.table.now.slots)) (λ (row : Row). value_at row c.args.place)
    ∙ sym c.requires.ranks

pub returns-clause-tell : goal.returns-clause-tell
returns-clause-tell c =
    let rows = rows_where (row_at c.args.found.now) (rows_of_slots c.args.table.now.slots) in
    let groups = c.args.groups.now in
    let column = column_found c.args.place c.args.table.now.slots c.column.result.now.values (row_at c.args.found.now) c.column.ensures.values in
    record {
      count = c.in_ok-folds.ensures.count;
      each = λ g f d low there.
          tells_items c.args.items.now c.args.place c.asked_of.result (get_or c.in_ok-folds.folds g d) (known (members groups.ranks (column_in rows c.args.place) g)) c.asked_of.ensures
          (subst (λ values. IsSummary c.asked_of.result (known (members groups.ranks values g)) (get_or c.in_ok-folds.folds g d)) column (c.in_ok-folds.ensures.summaries g d low)) f there;
    }
