use Rattle.std.proofs.Common.{Bool, None, Some, [], ap, arith, get_or, if◌then◌else◌, inl, inr, length, sym, to_z, w64, ◌++◌, ◌+◌, ◌<◌, ◌∙◌, ◌∷◌, ◌≡◌}
use Rattle.std.proofs.lemmas.Bool.{cases_Bool}
use Rattle.std.proofs.lemmas.List.{take_all, take_more}
use Rattle.bw_groups.proofs.Measured.{measured_none, measured_some}
use Rattle.bw_engine.proofs.found_cells.put_measured.Goals as goal

pub values-init : goal.values-init
values-init c values measured = c.clear.ensures.items

pub values-preserved : goal.values-preserved
values-preserved c values measured =
    let i = c.values.i in
    let len = c.args.measured.len in
    let present = c.args.measured.present in
    let distances = c.args.distances.now in
    let here : i < length values = omega (arith, measured.long, c.values-test.true) in
    let value : c.value_at.result ≡ get_or values i None =
    elim (cases_Bool c.has_bit.result) [
      | inl t ↦
          c.value_at.ensures ∙ ap (λ (b : Bool). if b then Some (to_z w64 (get_or distances i 0)) else None) t
          ∙ sym (measured_some values len present distances measured i here (sym c.has_bit.ensures ∙ t))
      | inr f ↦
          c.value_at.ensures ∙ ap (λ (b : Bool). if b then Some (to_z w64 (get_or distances i 0)) else None) f
          ∙ sym (measured_none values len present distances measured i here (sym c.has_bit.ensures ∙ f))
    ] in
    c.in_ok-push.ensures.items
    ∙ (λ j. c.values.invariant values measured j ++ value j ∷ [])
    ∙ sym (take_more values i None here)

pub returns : goal.returns
returns c values measured = c.values.invariant values measured ∙ take_all c.values.i values (omega (arith, measured.long, c.values-test.false))
