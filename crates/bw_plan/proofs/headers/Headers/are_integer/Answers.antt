use Rattle.std.proofs.Common.{[], ap, sym, take, ◌++◌, ◌∙◌, ◌∷◌, ◌≡◌, subst, ◌+◌}
use Rattle.std.specs.List.{All}
use Rattle.std.proofs.lemmas.List.{take_all, take_more}
use Rattle.std.proofs.lemmas.List.Elements.{All-push}
use Rattle.bw_code.specs.declared.kind.ColumnType.TheVariants.{Integer}
use Rattle.bw_model.specs.Store.{Header}
use Rattle.bw_plan.proofs.headers.Headers.are_integer.Goals as goal

pub loop-header-preserved : goal.loop-header-preserved
loop-header-preserved c =
    let headers = c.self.inside.headers.now in
    let i = c.loop-header.header-index in
    let item = c.header-item.result in
    let more : take (i + 1) headers ≡ take i headers ++ item ∷ [] = take_more headers i item c.loop-header-test.true ∙ ap (λ (h : Header). take i headers ++ h ∷ []) (sym c.header-item.is) in
    subst (All (λ (h : Header). h.column_type ≡ Integer)) (sym more) (All-push (λ (h : Header). h.column_type ≡ Integer) (take i headers) item c.loop-header.invariant (c.is_integer.ensures c.if-not-is_integer.false))

pub returns : goal.returns
returns c =
    let all = subst (All (λ (h : Header). h.column_type ≡ Integer)) (take_all c.loop-header.header-index c.self.inside.headers.now c.loop-header-test.false) c.loop-header.invariant in
    λ yes. rw (← c.self.view_is) all
