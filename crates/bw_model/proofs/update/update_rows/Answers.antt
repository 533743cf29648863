use Rattle.std.proofs.Common.{◌≡◌, ◌∙◌, [], ◌∷◌, List, None, Some, ap, arith, length, map, option_map, refl, rules, sym}
use Rattle.std.proofs.lemmas.List.{length-map}
use Rattle.bw_sql.specs.Tree.{condition_of}
use Rattle.bw_model.specs.Condition.{found_rows}
use Rattle.bw_model.specs.Refusals.{copy_test, first_that_holds, set_tests}
use Rattle.bw_model.specs.Store.{Row}
use Rattle.bw_model.specs.declared.reply.Reply.TheVariants.{Count}
use Rattle.bw_model.proofs.Passing.{by_early, by_last, by_none}
use Rattle.bw_model.proofs.update.update_rows.Goals as goal

pub returns-in-Some-clause-outcome : goal.returns-in-Some-clause-outcome
returns-in-Some-clause-outcome c =
    let table = c.args.table.now in
    let sets = c.args.sets.now in
    let condition = option_map condition_of c.args.condition.now in
    let first : first_that_holds (set_tests table.headers sets condition) ≡ Some c.in-Some.refusal = search rules in
    by_early _ _ (set_tests table.headers sets condition) (copy_test sets condition table) c.in-Some.refusal first (refl, refl)

pub returns-in-Some-first_that_holds-clause-outcome : goal.returns-in-Some-first_that_holds-clause-outcome
returns-in-Some-first_that_holds-clause-outcome c =
    let table = c.args.table.now in
    let sets = c.args.sets.now in
    let condition = option_map condition_of c.args.condition.now in
    let none : first_that_holds (set_tests table.headers sets condition) ≡ None = search rules in
    let found : map (λ row. row.now) c.deref-2.result.now ≡ found_rows table condition = ap (map (λ row. row.now)) c.deref-2.ensures.value ∙ c.in_ok-found.ensures in
    let copied = c.copy_test.ensures table condition c.headers-2.ensures.value found in
    let second : first_that_holds (copy_test sets condition table ∷ []) ≡ Some c.in-Some-first_that_holds.refusal =
    ap (λ test. first_that_holds (test ∷ [])) (sym copied) ∙ sym c.first_that_holds-2.ensures ∙ c.in-Some-first_that_holds.is in
    by_last _ _ (set_tests table.headers sets condition) (copy_test sets condition table) c.in-Some-first_that_holds.refusal none second (refl, refl)

pub returns-clause-outcome : goal.returns-clause-outcome
returns-clause-outcome c =
    let table = c.args.table.now in
    let sets = c.args.sets.now in
    let condition = option_map condition_of c.args.condition.now in
    let none : first_that_holds (set_tests table.headers sets condition) ≡ None = search rules in
    let found : map (λ row. row.now) c.deref-2.result.now ≡ found_rows table condition = ap (map (λ row. row.now)) c.deref-2.ensures.value ∙ c.in_ok-found.ensures in
    let copied = c.copy_test.ensures table condition c.headers-2.ensures.value found in
    let second : first_that_holds (copy_test sets condition table ∷ []) ≡ None =
    ap (λ test. first_that_holds (test ∷ [])) (sym copied) ∙ sym c.first_that_holds-2.ensures ∙ c.in_default-first_that_holds.is in
    by_none _ _ (set_tests table.headers sets condition) (copy_test sets condition table) none second (
      ap (λ n. Count n) (omega (arith, c.len-count.ensures, length-map c.in_ok-found.found.items (λ row. row.now), ap length c.in_ok-found.ensures)),
      c.replace_rows.ensures ∙ ap (λ (rows : List Row). record { headers = table.headers; rows = rows }) c.in_ok-rows.ensures,
    )
