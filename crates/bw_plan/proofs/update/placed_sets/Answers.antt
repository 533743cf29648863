use Rattle.std.proofs.Common.{◌∙◌, ap, is_some, not}
use Rattle.std.proofs.lemmas.Bool.{true≢false}
use Rattle.bw_model.specs.Refusals.{is_missing}
use Rattle.bw_plan.proofs.SetLaws.{none_at}
use Rattle.bw_plan.proofs.update.placed_sets.Goals as goal

pub unreachable-requires : goal.unreachable-requires
unreachable-requires c =
    true≢false (ap (λ o. not (is_some o)) c.in_default.ensures ∙ none_at (is_missing c.args.headers.now) (λ set. set.column) c.args.sets.now c.loop-set.set-index c.set-item.result c.requires c.loop-set-test.true c.set-item.is)
