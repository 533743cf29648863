use Rattle.std.proofs.Common.{Some, ap, arith, w64, ℤ, ◌&&◌, ◌≡◌, ◌∙◌}
use Rattle.std.proofs.lemmas.Int.{ints, to_z-of_z}
use Rattle.bw_mask.specs.Masks.{row_at}
use Rattle.bw_mask.specs.Truth.{is_value}
use Rattle.bw_mask.specs.declared.truth_value.TruthValue.TheVariants.{True}
use Rattle.bw_column.specs.Values.{value_at}
use Rattle.std.specs.Option.{option_eq}
use Rattle.std.specs.Ordering.{int_eq}
use Rattle.bw_aggregate.proofs.NextRows.{equal_is}
use Rattle.bw_aggregate.proofs.parting.equal_rows.Goals as goal
use mir.Val.{of_z, to_z}

pub returns-clause-rows : goal.returns-clause-rows
returns-clause-rows c r =
    let back : to_z w64 (of_z w64 c.args.value) ≡ c.args.value = search (arith, ints, to_z-of_z) in
    c.into_trues.ensures.rows r ∙ ap (λ truth. is_value truth True) (c.compare_in.ensures.truth.rows r)
    ∙ equal_is (row_at c.args.rows.now r) (to_z w64 (of_z w64 c.args.value)) (value_at c.args.column.now.values r)
    ∙ ap (λ (x : ℤ). row_at c.args.rows.now r && option_eq int_eq (value_at c.args.column.now.values r) (Some x)) back
