use Rattle.std.proofs.Common.{◌∙◌, [], ◌∷◌, ap, not, sym}
use Rattle.std.specs.List.{list_any}
use Rattle.bw_model.specs.Refusals.{is_missing, is_too_narrow}
use Rattle.bw_model.specs.Store.{are_distinct}
use Rattle.bw_model.specs.declared.refusal.Refusal.TheVariants.{ColumnNamedTwice, LayoutTooNarrow, NoSuchColumn}
use Rattle.bw_model.proofs.Changed.{any_chosen}
use Rattle.bw_model.proofs.refusal_tests.rebuild_tests.Goals as goal

pub returns : goal.returns
returns c =
    let headers = c.args.table.now.headers in
    let choices = c.args.choices.now in
    let missing = c.misses_any.ensures ∙ (λ j. list_any (is_missing (c.headers.ensures.value j)) (c.requires.columns j)) in
    let once = c.are_distinct.ensures ∙ ap are_distinct c.requires.columns in
    let narrow = c.any_is_too_narrow.ensures ∙ ap (list_any is_too_narrow) c.requires.chosen ∙ sym (any_chosen choices headers) in
    λ j. (NoSuchColumn, missing j) ∷ (ColumnNamedTwice, not (once j)) ∷ (LayoutTooNarrow, narrow j) ∷ []
