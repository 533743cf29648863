use Rattle.std.proofs.Common.{IfOk, ap, inl, inr, subst, sym, ℕ, ◌∙◌, ◌≡◌}
use Rattle.bw_mask.specs.Masks.{row_at}
use Rattle.bw_code.specs.Units.{units_of_scan}
use Rattle.bw_code.specs.declared.compare.CodeTest.{CodeTest}
use Rattle.test_codes.proofs.UnitLemmas.{units_of_all, units_of_cmp, units_of_none}
use Rattle.test_codes.proofs.units.scan_units.Goals as goal

pub returns-in-None : goal.returns-in-None
returns-in-None c =
    let needed = row_at c.args.need.now in
    let codes = c.args.codes.now in
    let units : CodeTest → ℕ = λ test. units_of_scan c.args.layout c.args.width test needed codes in
    elim c.in-None.is [
      | inl e ↦ sym (ap units e ∙ units_of_none c.args.layout c.args.width 0 needed codes)
      | inr e ↦ sym (ap units e ∙ units_of_all c.args.layout c.args.width 0 needed codes)
    ]

pub returns-in-Cmp : goal.returns-in-Cmp
returns-in-Cmp c =
    let needed = row_at c.args.need.now in
    let codes = c.args.codes.now in
    let units : CodeTest → ℕ = λ test. units_of_scan c.args.layout c.args.width test needed codes in
    subst (λ (n : ℕ). IfOk c.range_units.result (λ found. found ≡ n)) (sym (ap units c.in-Cmp.is ∙ units_of_cmp c.args.layout c.args.width 0 needed codes c.in-Cmp.field-0 c.in-Cmp.constant)) c.range_units.ensures
