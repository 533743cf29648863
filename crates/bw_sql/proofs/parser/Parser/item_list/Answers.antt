use Rattle.std.proofs.Common.{◌≡◌, ◌∷◌, length, ap, rules, arith, [], Some}
use Rattle.std.proofs.lemmas.Result.{err_from_is_err_and}
use Rattle.bw_sql.specs.Reading.{after_comma, item_at, item_list_at}
use Rattle.bw_sql.proofs.ListRuns.{after_comma-none, done, fails_first, fails_next, first, next}
use Rattle.bw_sql.proofs.parser.Parser.item_list.Goals as goal

pub returns-in_err-item-clause-read : goal.returns-in_err-item-clause-read
unfolding item_list_at
returns-in_err-item-clause-read c n h =
    let p = err_from_is_err_and c.from_residual.result c.from_residual.ensures.1 in
    rw (p.1, p.2) (fails_first after_comma (λ _. item_at) _ _ (λ _ _. c.in_err-item.ensures.read) n h)

pub loop-items-init : goal.loop-items-init
loop-items-init c =
    let e : c.push.new.self.items ≡ c.in_ok-item.field-0 ∷ [] = search rules in
    rw e (first after_comma (λ _. item_at) _ _ _ c.in_ok-item.ensures.shorter (λ _ _. c.in_ok-item.ensures.read))

pub loop-items-preserved : goal.loop-items-preserved
loop-items-preserved c =
    let goes : after_comma c.loop-items.self.rest.now ≡ Some c.eat.new.self.rest.now = search rules in
    rw c.in_ok-push-2.ensures.items (next after_comma (λ _. item_at) _ _ _ c.loop-items.invariant _ _ _ goes (omega (arith, ap length c.loop-items-test.ensures)) c.in_ok-item-2.ensures.shorter (λ _ _. c.in_ok-item-2.ensures.read))

pub returns-in_err-item-2-clause-read : goal.returns-in_err-item-2-clause-read
unfolding item_list_at
returns-in_err-item-2-clause-read c n h =
    let goes : after_comma c.loop-items.self.rest.now ≡ Some c.eat.new.self.rest.now = search rules in
    let p = err_from_is_err_and c.from_residual-in_err-item-2.result c.from_residual-in_err-item-2.ensures.1 in
    rw (p.1, p.2) (fails_next after_comma (λ _. item_at) _ _ _ _ _ c.loop-items.invariant goes (omega (arith, ap length c.loop-items-test.ensures)) (λ _ _. c.in_err-item-2.ensures.read) n h)

pub returns-clause-read : goal.returns-clause-read
unfolding item_list_at
returns-clause-read c =
    let stops = c.loop-items-test.ensures in
    rw (stops.0, c.new.ensures) (done after_comma (λ _. item_at) _ _ _ c.loop-items.invariant (after_comma-none _ stops.1))
