use Rattle.std.proofs.Common.{ap, ℕ, inl, inr, sym, ◌∙◌}
use Rattle.bw_mask.specs.Masks.{row_at}
use Rattle.bw_code.specs.Units.{units_of_scan}
use Rattle.bw_code.specs.declared.compare.CodeTest.{CodeTest}
use Rattle.bw_code.specs.declared.kind.Layout.TheVariants.{P}
use Rattle.bw_code.proofs.UnitLemmas.{units_of_all, units_of_cmp, units_of_none, units_of_range}
use Rattle.bw_code.proofs.narrow_codes.units.Goals as goal

pub returns-in-None : goal.returns-in-None
returns-in-None c width codes same =
    let rows = c.args.need.now.rows in
    let cost : CodeTest → ℕ = λ test. units_of_scan P width test (row_at c.args.need.now) codes in
    elim c.in-None.is [
      | inl e ↦ sym (ap cost e ∙ units_of_none P width (row_at c.args.need.now) codes)
      | inr e ↦ sym (ap cost e ∙ units_of_all P width (row_at c.args.need.now) codes)
    ]

pub returns-in-Cmp : goal.returns-in-Cmp
returns-in-Cmp c width codes same =
    let rows = c.args.need.now.rows in
    let cost : CodeTest → ℕ = λ test. units_of_scan P width test (row_at c.args.need.now) codes in
    c.count.ensures.rows ∙ elim c.in-Cmp.is [
      | inl (op, constant, e) ↦ sym (ap cost e ∙ units_of_cmp width rows codes same op constant)
      | inr (low, high, e) ↦ sym (ap cost e ∙ units_of_range width rows codes same low high)
    ]
