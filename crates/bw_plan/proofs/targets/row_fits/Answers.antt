use Rattle.std.proofs.Common.{None, ap, arith, get_or, inl, inr, length, subst, sym, true, ◌∙◌, ◌≡◌}
use Rattle.std.proofs.lemmas.Bool.{cases_lt}
use Rattle.std.proofs.lemmas.List.{length-map}
use Rattle.bw_code.specs.Types.{is_null_or_of_type}
use Rattle.bw_code.specs.declared.kind.ColumnType.TheVariants.{Integer}
use Rattle.bw_model.specs.Refusals.{types_named}
use Rattle.bw_model.specs.Store.{type_named}
use Rattle.bw_plan.specs.Targeting.{names_of}
use Rattle.bw_plan.proofs.Targeting.{row_fails, row_passes}
use Rattle.bw_plan.proofs.targets.row_fits.Goals as goal

pub returns-then-not-is_null_or_of_type : goal.returns-then-not-is_null_or_of_type
returns-then-not-is_null_or_of_type c =
    let list = names_of c.args.headers.now c.args.targets in
    let types = types_named c.args.headers.now list in
    let same : length c.args.row.now ≡ length types = c.requires ∙ sym (length-map list (type_named c.args.headers.now)) in
    sym (row_fails types c.args.row.now Integer c.loop-k.k same c.loop-k-test.true
    (ap (λ t. is_null_or_of_type t (get_or c.args.row.now c.loop-k.k None)) (sym (c.column_type.ensures Integer)) ∙ sym c.is_null_or_of_type.ensures ∙ c.if-not-is_null_or_of_type.true))

pub loop-k-preserved : goal.loop-k-preserved
loop-k-preserved c =
    let types = types_named c.args.headers.now (names_of c.args.headers.now c.args.targets) in
    let k = c.loop-k.k in
    let this : is_null_or_of_type (get_or types k Integer) (get_or c.args.row.now k None) ≡ true =
    ap (λ t. is_null_or_of_type t (get_or c.args.row.now k None)) (sym (c.column_type.ensures Integer)) ∙ sym c.is_null_or_of_type.ensures ∙ c.if-not-is_null_or_of_type.false in
    λ i h.
    elim (cases_lt i k) [
      | inl before ↦ c.loop-k.invariant i before
      | inr past ↦
          let same : k ≡ i = omega (arith, h, past) in
          subst (λ n. is_null_or_of_type (get_or types n Integer) (get_or c.args.row.now n None) ≡ true) same this
    ]

pub returns : goal.returns
returns c =
    let list = names_of c.args.headers.now c.args.targets in
    let types = types_named c.args.headers.now list in
    let same : length c.args.row.now ≡ length types = c.requires ∙ sym (length-map list (type_named c.args.headers.now)) in
    sym (row_passes types c.args.row.now Integer same (λ i low. c.loop-k.invariant i (omega (arith, low, c.loop-k-test.false))))
