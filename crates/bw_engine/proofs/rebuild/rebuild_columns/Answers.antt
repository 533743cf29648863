use Rattle.std.proofs.Common.{◌∙◌, refl, sym}
use Rattle.std.specs.List.{list_any}
use Rattle.bw_model.specs.Changes.{chosen_header}
use Rattle.bw_model.specs.Refusals.{chosen_columns, is_too_narrow}
use Rattle.bw_plan.specs.Checks.{listed_tests}
use Rattle.bw_engine.proofs.Chosen.{hold_types}
use Rattle.bw_engine.proofs.After.{chosen_early, chosen_narrow, chosen_passes, chosen_placed, chosen_wants}
use Rattle.bw_engine.proofs.Updated.{chosen_table}
use Rattle.bw_engine.proofs.rebuild.rebuild_columns.Goals as goal

pub returns-in_err-check_choices-clause-reply : goal.returns-in_err-check_choices-clause-reply
returns-in_err-check_choices-clause-reply c =
    let told = rw c.headers.ensures.value at c.in_err-check_choices.ensures in
    chosen_early (listed_tests c.args.table.now.headers (chosen_columns c.args.choices.now)) (list_any (λ header. is_too_narrow (chosen_header c.args.choices.now header)) c.args.table.now.headers) c.from_residual.result _ _ told c.from_residual.ensures.1

pub returns-then-chooses_too_narrow-clause-reply : goal.returns-then-chooses_too_narrow-clause-reply
returns-then-chooses_too_narrow-clause-reply c =
    let told = rw c.headers.ensures.value at c.in_ok-check_choices.ensures in
    let narrow = rw c.headers-2.ensures.value at c.chooses_too_narrow.ensures in
    chosen_narrow (listed_tests c.args.table.now.headers (chosen_columns c.args.choices.now)) (list_any (λ header. is_too_narrow (chosen_header c.args.choices.now header)) c.args.table.now.headers) told.0 (sym narrow ∙ c.if-chooses_too_narrow.true)

pub returns-in_err-choices-clause-reply : goal.returns-in_err-choices-clause-reply
returns-in_err-choices-clause-reply c =
    let told = rw c.headers.ensures.value at c.in_ok-check_choices.ensures in
    let narrow = rw c.headers-2.ensures.value at c.chooses_too_narrow.ensures in
    chosen_placed (listed_tests c.args.table.now.headers (chosen_columns c.args.choices.now)) (list_any (λ header. is_too_narrow (chosen_header c.args.choices.now header)) c.args.table.now.headers) c.from_residual-in_err-choices.result _ _ told.0 (sym narrow ∙ c.if-chooses_too_narrow.false)
    (rw c.headers-3.ensures.value at c.in_err-choices.ensures) c.from_residual-in_err-choices.ensures.1

pub rebuild-requires : goal.rebuild-requires
rebuild-requires c =
    let narrow = rw c.headers-2.ensures.value at c.chooses_too_narrow.ensures in
    let placed = rw c.headers-3.ensures.value at c.in_ok-choices.ensures in
    rw c.as_slice.ensures.value (hold_types c.args.table.now.headers c.args.choices.now c.in_ok-choices.choices.items c.headers.ensures.valid placed.1 (sym narrow ∙ c.if-chooses_too_narrow.false))

pub returns-in_err-rebuild-clause-reply : goal.returns-in_err-rebuild-clause-reply
returns-in_err-rebuild-clause-reply c =
    let told = rw c.headers.ensures.value at c.in_ok-check_choices.ensures in
    let narrow = rw c.headers-2.ensures.value at c.chooses_too_narrow.ensures in
    chosen_wants (listed_tests c.args.table.now.headers (chosen_columns c.args.choices.now)) (list_any (λ header. is_too_narrow (chosen_header c.args.choices.now header)) c.args.table.now.headers) c.from_residual-in_err-rebuild.result _ told.0 (sym narrow ∙ c.if-chooses_too_narrow.false) c.from_residual-in_err-rebuild.ensures.1

pub returns-clause-reply : goal.returns-clause-reply
returns-clause-reply c =
    let told = rw c.headers.ensures.value at c.in_ok-check_choices.ensures in
    let narrow = rw c.headers-2.ensures.value at c.chooses_too_narrow.ensures in
    let placed = rw c.headers-3.ensures.value at c.in_ok-choices.ensures in (
      chosen_passes (listed_tests c.args.table.now.headers (chosen_columns c.args.choices.now)) (list_any (λ header. is_too_narrow (chosen_header c.args.choices.now header)) c.args.table.now.headers) told.0 (sym narrow ∙ c.if-chooses_too_narrow.false),
      (
        refl,
        chosen_table c.args.table.now c.rebuild.new.self c.args.choices.now c.in_ok-choices.choices.items c.headers.ensures.valid placed.1 (rw c.as_slice.ensures.value at c.in_ok-rebuild.ensures.headers) c.in_ok-rebuild.ensures.rows,
      ),
    )

pub returns-clause-stored : goal.returns-clause-stored
returns-clause-stored c =
    let placed = rw c.headers-3.ensures.value at c.in_ok-choices.ensures in
    record { choices = c.in_ok-choices.choices.items; named = placed.1; rebuilt = rw c.as_slice.ensures.value at c.in_ok-rebuild.ensures.rebuilt }
