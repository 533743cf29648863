use Rattle.std.proofs.Common.{ap, arith, if◌then◌else◌, pos, sym, true, ◌*◌, ◌+ℤ◌, ◌≡◌, ◌∙◌}
use Rattle.bw_mask.specs.Masks.{len, row_at}
use Rattle.bw_code.specs.Columns.{code_at, count}
use Rattle.bw_code.specs.Encodings.{width}
use Rattle.bw_code.specs.Meters.{raised}
use Rattle.bw_code.specs.Tests.{int_compares}
use Rattle.bw_code.specs.Units.{segments_of, some_below, units_of_addition}
use Rattle.bw_code.proofs.Lists.{made_len}
use Rattle.bw_vertical.specs.Planes.{code_in}
use Rattle.bw_column.specs.Codes.{value_from}
use Rattle.bw_column.specs.PlaneSources.{units_in}
use Rattle.bw_column.specs.Storing.{list_of}
use Rattle.bw_column.proofs.PairRows.{added_units, code_held, known_both, on_known, sums_met}
use Rattle.bw_column.proofs.column.Column.compare_sums.Goals as goal

pub add_planes-requires-clause-units : goal.add_planes-requires-clause-units
add_planes-requires-clause-units c =
    let codes = list_of c.self.inside.codes in
    let rows : len c.args.known.now ≡ count codes = (rw (← c.self.view_is) at c.requires.known) ∙ made_len (count codes) (λ i. value_from c.self.inside.encoding (code_at codes i) (row_at c.self.inside.nonnull i)) in
    let width_is : codes.width ≡ c.in-Offset-Offset.left.width = c.self.invariant.width ∙ ap width c.in-Offset-Offset.is-0 in
    c.in-Some-Some.ensures.units ∙ ap (λ n. segments_of 256 n * codes.width) (sym rows) ∙ ap (λ k. segments_of 256 (len c.args.known.now) * k) width_is

pub add_planes-requires-clause-other_units : goal.add_planes-requires-clause-other_units
add_planes-requires-clause-other_units c =
    let codes = list_of c.other.inside.codes in
    let rows : len c.args.known.now ≡ count codes = (rw (← c.other.view_is) at (c.requires.known ∙ sym c.requires.other)) ∙ made_len (count codes) (λ i. value_from c.other.inside.encoding (code_at codes i) (row_at c.other.inside.nonnull i)) in
    let width_is : codes.width ≡ c.in-Offset-Offset.right.width = c.other.invariant.width ∙ ap width c.in-Offset-Offset.is-1 in
    c.in-Some-Some.ensures'.units ∙ ap (λ n. segments_of 256 n * codes.width) (sym rows) ∙ ap (λ k. segments_of 256 (len c.args.known.now) * k) width_is

pub returns-clause-rows : goal.returns-clause-rows
returns-clause-rows c i =
    let e = c.self.inside.encoding in
    let d = c.other.inside.encoding in
    let codes = list_of c.self.inside.codes in
    let others = list_of c.other.inside.codes in
    let nonnull = c.self.inside.nonnull in
    let nonnull_others = c.other.inside.nonnull in
    let op = c.args.op in
    let left = c.in-Offset-Offset.left in
    let right = c.in-Offset-Offset.right in
    let units = units_in c.in-Some-Some.planes in
    let other_units = units_in c.in-Some-Some.others in
    let known = row_at c.args.known.now i in
    let width_is : codes.width ≡ left.width = c.self.invariant.width ∙ ap width c.in-Offset-Offset.is-0 in
    let other_width_is : others.width ≡ right.width = c.other.invariant.width ∙ ap width c.in-Offset-Offset.is-1 in
    let there = rw (← c.self.view_is, ← c.other.view_is) at (c.requires.there i) in
    let held : known ≡ true → int_compares op (left.base +ℤ pos (code_in left.width units i)) (right.base +ℤ pos (code_in right.width other_units i)) ≡ int_compares op (left.base +ℤ pos (code_at codes i)) (right.base +ℤ pos (code_at others i)) = λ h.
    let inside = known_both op e d codes others nonnull nonnull_others c.self.invariant c.other.invariant i (there h) in
    let first : code_in left.width units i ≡ code_at codes i = ap (λ k. code_in k units i) (sym width_is) ∙ code_held e codes nonnull c.self.invariant c.in-Some-Some.planes c.in-Some-Some.ensures i inside.0 in
    let second : code_in right.width other_units i ≡ code_at others i = ap (λ k. code_in k other_units i) (sym other_width_is) ∙ code_held d others nonnull_others c.other.invariant c.in-Some-Some.others c.in-Some-Some.ensures' i inside.1 in
    ap (λ x. int_compares op (left.base +ℤ pos x) (right.base +ℤ pos (code_in right.width other_units i))) first ∙ ap (λ y. int_compares op (left.base +ℤ pos (code_at codes i)) (right.base +ℤ pos y)) second in
    rw (← c.self.view_is, ← c.other.view_is) (
    c.add_planes.ensures.rows i
    ∙ on_known known (int_compares op (left.base +ℤ pos (code_in left.width units i)) (right.base +ℤ pos (code_in right.width other_units i))) (int_compares op (left.base +ℤ pos (code_at codes i)) (right.base +ℤ pos (code_at others i))) held
    ∙ sums_met op e d codes others nonnull nonnull_others c.self.invariant c.other.invariant i left right c.in-Offset-Offset.is-0 c.in-Offset-Offset.is-1 known there)

pub returns-clause-units : goal.returns-clause-units
returns-clause-units c =
    let e = c.self.inside.encoding in
    let d = c.other.inside.encoding in
    let n = len c.args.known.now in
    let known = row_at c.args.known.now in
    let old = c.args.meter.now in
    let first : c.reads.result ≡ (if some_below n known then segments_of 256 n * c.in-Offset-Offset.left.width else 0) = omega (arith, c.reads.ensures, c.add_planes.ensures.reads, c.in-Some-Some.ensures.unread) in
    let second : c.reads-2.result ≡ (if some_below n known then segments_of 256 n * c.in-Offset-Offset.right.width else 0) = omega (arith, c.reads-2.ensures, c.add_planes.ensures.other_reads, c.in-Some-Some.ensures'.unread) in
    let width_is : c.in-Offset-Offset.left.width ≡ width e = sym (ap width c.in-Offset-Offset.is-0) in
    let other_width_is : c.in-Offset-Offset.right.width ≡ width d = sym (ap width c.in-Offset-Offset.is-1) in
    let rows = rw (← c.self.view_is) at c.requires.known in
    rw (← c.self.view_is, ← c.other.view_is) (
    c.add-3.ensures ∙ ap (λ m. raised m c.reads-2.result) c.add-2.ensures
    ∙ added_units c.in-Offset-Offset.left.width c.in-Offset-Offset.right.width n old c.reads.result c.reads-2.result known first second
    ∙ ap (λ w. raised old (units_of_addition w c.in-Offset-Offset.right.width known n)) width_is
    ∙ ap (λ w. raised old (units_of_addition (width e) w known n)) other_width_is
    ∙ ap (λ m. raised old (units_of_addition (width e) (width d) known m)) rows)
