use Rattle.std.proofs.Common.{None, ap, drop, get_or, sym, ◌+◌, ◌∙◌}
use Rattle.std.proofs.lemmas.List.{drop_all, drop_more}
use Rattle.bw_mask.specs.Truth.{or_of}
use Rattle.bw_mask.proofs.Tables.{or_of_False, or_of_assoc}
use Rattle.bw_model.specs.Condition.{compared, is_one_of}
use Rattle.bw_lex.specs.declared.token.CompareOp.TheVariants.{Eq}
use Rattle.bw_plan.proofs.list_truth.one_of.Goals as goal

pub loop-entry-preserved : goal.loop-entry-preserved
loop-entry-preserved c =
    let value = c.args.value in
    let entries = c.args.entries.now in
    let index = c.loop-entry.entry-index in
    let found = c.loop-entry.found in
    let said = compared Eq value (get_or entries index None) in
    ap (λ t. or_of t (is_one_of value (drop (index + 1) entries))) (c.or-found.ensures ∙ ap (or_of found) c.compare_values.ensures)
    ∙ or_of_assoc found said (is_one_of value (drop (index + 1) entries))
    ∙ ap (λ xs. or_of found (is_one_of value xs)) (sym (drop_more entries index None c.loop-entry-test.true))
    ∙ c.loop-entry.invariant

pub returns : goal.returns
returns c =
    let value = c.args.value in
    let entries = c.args.entries.now in
    sym (or_of_False c.loop-entry.found) ∙ ap (λ xs. or_of c.loop-entry.found (is_one_of value xs)) (sym (drop_all c.loop-entry.entry-index entries c.loop-entry-test.false)) ∙ c.loop-entry.invariant
