use Rattle.std.proofs.Common.{FitsSigned, None, refl, rules, subst, sym, w64}
use Rattle.bw_cells.specs.Known.{known}
use Rattle.bw_code.specs.Encodings.{IsGreatest, IsLeast}
use Rattle.bw_code.specs.Fittings.{AreEnds}
use Rattle.bw_file.specs.Planes.{cells_in}
use Rattle.bw_file.proofs.PlaneEnds.{greatest_typed, greatest_value, handed_back, handed_on, handed_type, inside, least_typed, least_value, no_values, typed_between, typed_empty}
use Rattle.bw_vertical.proofs.JoinedEnds.{on, turned}
use Rattle.bw_file.proofs.code_ends.values_in.Goals as goal

pub returns-then-not-codes-clause-typed : goal.returns-then-not-codes-clause-typed
returns-then-not-codes-clause-typed c ends e =
    typed_empty c.args.rows c.args.base c.args.k c.args.present.now c.args.planes.now c.code_ends-codes.result c.code_ends-codes.ensures c.args.column_type (turned c.code_ends-codes.result.any c.if-not-codes.true)

pub returns-then-not-codes-clause-ends : goal.returns-then-not-codes-clause-ends
returns-then-not-codes-clause-ends c ends e =
    subst (AreEnds (known (cells_in c.args.rows c.args.base c.args.k c.args.present.now c.args.planes.now))) (inside None ends e)
    (no_values c.args.rows c.args.base c.args.k c.args.present.now c.args.planes.now c.code_ends-codes.result c.code_ends-codes.ensures (turned c.code_ends-codes.result.any c.if-not-codes.true))

pub returns-in_default-clause-beyond : goal.returns-in_default-clause-beyond
returns-in_default-clause-beyond c e all =
    let fits : FitsSigned w64 c.args.base = search rules in
    c.in_default.ensures.none refl
    (handed_back c.args.column_type c.args.base c.code_ends-codes.result.least fits
    (least_typed c.args.rows c.args.base c.args.k c.args.present.now c.args.planes.now c.code_ends-codes.result c.code_ends-codes.ensures c.args.column_type (on c.code_ends-codes.result.any c.if-not-codes.false) all))

pub returns-in_default-value_of-clause-beyond : goal.returns-in_default-value_of-clause-beyond
returns-in_default-value_of-clause-beyond c e all =
    let fits : FitsSigned w64 c.args.base = search rules in
    c.in_default-value_of.ensures.none refl
    (handed_back c.args.column_type c.args.base c.code_ends-codes.result.greatest fits
    (greatest_typed c.args.rows c.args.base c.args.k c.args.present.now c.args.planes.now c.code_ends-codes.result c.code_ends-codes.ensures c.args.column_type (on c.code_ends-codes.result.any c.if-not-codes.false) all))

pub returns-clause-typed : goal.returns-clause-typed
returns-clause-typed c ends e =
    let fits : FitsSigned w64 c.args.base = search rules in
    let low = c.in-Some.ensures.some in
    let high = c.in-Some-value_of.ensures.some in
    typed_between c.args.rows c.args.base c.args.k c.args.present.now c.args.planes.now c.code_ends-codes.result c.code_ends-codes.ensures c.args.column_type
    (handed_type c.args.column_type c.args.base c.in-Some.least c.code_ends-codes.result.least fits low.0 low.1)
    (handed_type c.args.column_type c.args.base c.in-Some-value_of.greatest c.code_ends-codes.result.greatest fits high.0 high.1)

pub returns-clause-ends : goal.returns-clause-ends
returns-clause-ends c ends e =
    let fits : FitsSigned w64 c.args.base = search rules in
    let low = c.in-Some.ensures.some in
    let high = c.in-Some-value_of.ensures.some in
    let values = known (cells_in c.args.rows c.args.base c.args.k c.args.present.now c.args.planes.now) in
    let any = on c.code_ends-codes.result.any c.if-not-codes.false in
    subst (AreEnds (known (cells_in c.args.rows c.args.base c.args.k c.args.present.now c.args.planes.now))) (inside _ ends e) (
      subst (IsLeast values) (sym (handed_on c.args.column_type c.args.base c.in-Some.least c.code_ends-codes.result.least fits low.0 low.1))
          (least_value c.args.rows c.args.base c.args.k c.args.present.now c.args.planes.now c.code_ends-codes.result c.code_ends-codes.ensures any),
      subst (IsGreatest values) (sym (handed_on c.args.column_type c.args.base c.in-Some-value_of.greatest c.code_ends-codes.result.greatest fits high.0 high.1))
          (greatest_value c.args.rows c.args.base c.args.k c.args.present.now c.args.planes.now c.code_ends-codes.result c.code_ends-codes.ensures any),
    )
