use Rattle.std.proofs.Common.{◌∙◌, ap, is_some, not}
use Rattle.std.proofs.lemmas.Bool.{true≢false}
use Rattle.bw_model.specs.Refusals.{is_missing}
use Rattle.bw_plan.proofs.SetLaws.{none_at}
use Rattle.bw_plan.proofs.rebuild.placed_choices.Goals as goal

pub unreachable-requires : goal.unreachable-requires
unreachable-requires c =
    true≢false (ap (λ o. not (is_some o)) c.in_default.ensures ∙ none_at (is_missing c.args.headers.now) (λ choice. choice.column) c.args.choices.now c.loop-choice.choice-index c.choice-item.result c.requires c.loop-choice-test.true c.choice-item.is)
