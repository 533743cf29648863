use Rattle.std.proofs.Common.{Bool, List, Some, ap, not, of_z, to_z, w64, ℕ, ℤ, ◌&&◌, ◌≡◌, ◌∙◌}
use Rattle.std.specs.Ordering.{int_eq}
use Rattle.std.proofs.lemmas.Int.{to_z-of_z}
use Rattle.bw_mask.specs.Masks.{row_at}
use Rattle.bw_code.specs.Encodings.{code_of, test_of, width}
use Rattle.bw_code.specs.Meters.{raised}
use Rattle.bw_code.specs.Tests.{meets}
use Rattle.bw_code.specs.Units.{units_of_scan}
use Rattle.bw_code.specs.declared.compare.CmpOp.TheVariants.{Eq}
use Rattle.bw_code.specs.declared.compare.CodeTest.{CodeTest}
use Rattle.bw_column.specs.Comparisons.{holds_of}
use Rattle.bw_column.specs.Values.{value_at}
use Rattle.bw_column.specs.Storing.{layout_of, list_of}
use Rattle.bw_column.proofs.Scans.{all_codes, known_met, left_out}
use Rattle.bw_column.proofs.column.Column.take_out.Goals as goal

pub returns-clause-rows : goal.returns-clause-rows
returns-clause-rows c i =
    let v : to_z w64 (of_z w64 c.args.entry) ≡ c.args.entry = to_z-of_z w64 c.args.entry c.ranges.entry in
    let holds : ℤ → Bool = λ x. int_eq x c.args.entry in
    let exact : (x : ℤ) (code : ℕ) → code_of c.self.inside.encoding x ≡ Some code → meets c.test-test.result code ≡ holds x = λ x code h. rw v at (c.test-test.ensures.meets x code h) in
    let rest = row_at c.args.rest.now i in
    let value = value_at c.args.self.now.values i in
    c.andnot_in.ensures.rows i
    ∙ ap (λ b. rest && not b) (c.scan.ensures.rows i ∙ rw (← c.self.view_is) (known_met c.self.inside.encoding (list_of c.self.inside.codes) c.self.inside.nonnull c.self.invariant c.test-test.result holds exact rest i (rw (← c.self.view_is) at c.requires.known i)))
    ∙ left_out rest (holds_of holds value)

pub returns-clause-units : goal.returns-clause-units
returns-clause-units c =
    let v : to_z w64 (of_z w64 c.args.entry) ≡ c.args.entry = to_z-of_z w64 c.args.entry c.ranges.entry in
    let e = c.self.inside.encoding in
    let codes = (list_of c.self.inside.codes) in
    let nonnull = c.self.inside.nonnull in
    let needed = row_at c.args.rest.now in
    let old = c.args.meter.now in
    let test : c.test-test.result ≡ test_of e Eq c.args.entry = rw v at c.test-test.ensures.is in
    rw (← c.self.view_is) (
    c.scan.ensures.units
    ∙ ap (λ (t : CodeTest). raised old (units_of_scan (layout_of c.self.inside.codes) codes.width t needed codes.codes)) test
    ∙ ap (λ (k : ℕ). raised old (units_of_scan (layout_of c.self.inside.codes) k (test_of e Eq c.args.entry) needed codes.codes)) c.self.invariant.width
    ∙ ap (λ (xs : List ℕ). raised old (units_of_scan (layout_of c.self.inside.codes) (width e) (test_of e Eq c.args.entry) needed xs)) (all_codes e codes nonnull c.self.invariant))
