use Rattle.std.proofs.Common.{FitsSigned, arith, refl, rules, w64, ◌≤ℤ◌}
use Rattle.std.proofs.lemmas.Int.{ints, to_z-of_z}
use Rattle.std.proofs.lemmas.List.Elements.{All-contains}
use Rattle.bw_code.specs.Encodings.{IsGreatest, IsLeast, IsWithin, top}
use Rattle.bw_column.specs.Values.{known}
use Rattle.bw_column.proofs.Between.{all_within, coded_between, none_coded}
use Rattle.bw_column.proofs.copying.spans.Goals as goal

pub returns-in_default : goal.returns-in_default
returns-in_default c values none = (λ _. none_coded c.args.offset values (rw c.in_default.is at none), λ _. refl)

pub returns-then-least-offset : goal.returns-then-least-offset
returns-then-least-offset c values are =
    let o = c.args.offset in
    let least = c.in-Some.field-0.least in
    let base_fits : FitsSigned w64 o.base = search rules in
    let least_fits : FitsSigned w64 least = search rules in
    let both : IsLeast (known values) least × IsGreatest (known values) c.in-Some.field-0.greatest = rw c.in-Some.is at are in
    let under = rw (to_z-of_z w64 least least_fits, to_z-of_z w64 o.base base_fits) at c.if-least-offset.true in (
      λ t. absurd (let e = t in cc),
      λ all. absurd (let within = All-contains (IsWithin o) (known values) least (all_within o values all) both.0.reached in grind (arith, ints, under, within.0)),
    )

pub returns : goal.returns
returns c values are =
    let o = c.args.offset in
    let least = c.in-Some.field-0.least in
    let greatest = c.in-Some.field-0.greatest in
    let base_fits : FitsSigned w64 o.base = search rules in
    let least_fits : FitsSigned w64 least = search rules in
    let greatest_fits : FitsSigned w64 greatest = search rules in
    let both : IsLeast (known values) least × IsGreatest (known values) greatest = rw c.in-Some.is at are in
    let above = rw (to_z-of_z w64 least least_fits, to_z-of_z w64 o.base base_fits) at c.if-least-offset.false in
    let far = rw (to_z-of_z w64 greatest greatest_fits, to_z-of_z w64 o.base base_fits) at c.abs_diff.ensures in
    let low : o.base ≤ℤ least = grind (arith, ints, above) in (
      λ t. let high : greatest ≤ℤ top o = grind (arith, ints, far, t, c.greatest_code.ensures) in coded_between o least greatest values low high both.0 both.1,
      λ all. let within = All-contains (IsWithin o) (known values) greatest (all_within o values all) both.1.reached in grind (arith, ints, far, c.greatest_code.ensures, within.0, within.1),
    )
