use Rattle.std.proofs.Common.{Bool, None, Option, arith, if◌then◌else◌, inl, inr, refl, sym, true, w64, ℤ, ◌≡◌, ◌∙◌}
use Rattle.std.proofs.lemmas.Bool.{cases_Bool}
use Rattle.std.proofs.lemmas.Int.{ints, to_z-of_z}
use Rattle.std.specs.Int.{w128}
use Rattle.bw_aggregate.proofs.Sums.{sum_offset}
use Rattle.bw_aggregate.proofs.telling.tell.Goals as goal
use mir.Val.{of_z, to_z}

where_asked : (asked : Bool) (a b : Option ℤ) → (asked ≡ true → a ≡ b) → (if asked then a else None) ≡ (if asked then b else None)
where_asked asked a b same =
    elim (cases_Bool asked) [
      | inl e ↦ rw e (same e)
      | inr e ↦ rw e refl
    ]

pub returns-in-Offset : goal.returns-in-Offset
returns-in-Offset c =
    let column = c.args.column.now in
    let offset = c.in-Offset.offset in
    let tally = c.code_tally-tally.ensures in
    let whole : to_z w128 (of_z w128 c.based_total.result) ≡ c.based_total.result = omega (arith, ints, c.based_total.type_inv) in
    let base : to_z w64 (of_z w64 offset.base) ≡ offset.base = search (arith, ints, to_z-of_z) in
    record {
      sum = c.sum_if.ensures ∙ where_asked c.args.sum _ _ (λ asked. rw (whole, c.based_total.ensures, base) (
          sum_offset column.encoding offset (sym c.in-Offset.is ∙ c.encoding.ensures.is) c.args.rows.now.rows column.values c.encoding.ensures.coded c.args.count c.code_tally-tally.result.sum c.requires.count c.requires.some (tally.sum asked)));
      nearest = tally.nearest;
    }
