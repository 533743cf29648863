use Rattle.std.proofs.Common.{IfOk, subst, ◌≡◌}
use Rattle.bw_model.specs.Store.{names}
use Rattle.bw_engine.proofs.Shows.{headings_all}
use Rattle.bw_engine.proofs.select.headings_of.Goals as goal

pub returns-in-All : goal.returns-in-All
returns-in-All c =
    rw c.in-All.is (subst (λ list. IfOk c.all_headings.result (λ headings. headings.items ≡ list)) (headings_all (names c.args.headers.now)) c.all_headings.ensures)
