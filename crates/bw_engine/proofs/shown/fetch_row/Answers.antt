use Rattle.std.proofs.Common.{append_assoc, ap, arith, length, map, slice_index, sym, take, ℕ, [], ◌++◌, ◌<◌, ◌∙◌, ◌∷◌}
use Rattle.std.proofs.lemmas.List.{map_more}
use Rattle.bw_table.specs.Slots.{slot_at}
use Rattle.bw_model.specs.Store.{Value, value_at}
use Rattle.bw_engine.proofs.SetRows.{same_value}
use Rattle.bw_engine.proofs.shown.fetch_row.Goals as goal

pub loop-place-preserved : goal.loop-place-preserved
loop-place-preserved c =
    let row = (slot_at c.args.table.now.slots c.args.slot).row in
    let places = c.args.places.now in
    let k = c.loop-place.place-index in
    let old = c.args.values.now.items in
    let value : ℕ → Value = λ place. value_at row place in
    let within : k < length places = omega (arith, c.loop-place-test.true, c.loop-place.auto.place-index-end) in
    c.in_ok-push.ensures.items
    ∙ ap (λ l. l ++ c.fetch.result ∷ []) c.loop-place.invariant
    ∙ append_assoc old (map value (take k places)) (c.fetch.result ∷ [])
    ∙ ap (λ x. old ++ (map value (take k places) ++ x ∷ [])) (c.fetch.ensures ∙ same_value row (slice_index places k))
    ∙ ap (λ l. old ++ l) (sym (map_more value places k 0 within))
