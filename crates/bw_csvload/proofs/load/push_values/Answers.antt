use Rattle.std.proofs.Common.{[], ap, arith, drop, length, sym, ◌<◌, ◌≡◌, ◌+◌, ◌∙◌}
use Rattle.std.specs.List.{zip}
use Rattle.std.proofs.lemmas.List.{drop_all}
use Rattle.std.proofs.lemmas.Slice.Zip.{length-zip}
use Rattle.std.proofs.lemmas.Result.{err_from_is_err_and}
use Rattle.bw_code.specs.declared.kind.ColumnType.TheVariants.{Integer}
use Rattle.csv.proofs.RecordFacts.{field-get, field-there}
use Rattle.csv.specs.Records.{fields_of}
use Rattle.bw_csvload.specs.Rows.{cell_at, located}
use Rattle.bw_csvload.proofs.Firsts.{field_there, grow_done, place_fault, place_more}
use Rattle.bw_csvload.proofs.load.push_values.Goals as goal

pub unreachable-requires : goal.unreachable-requires
unreachable-requires c =
    let there : c.places.i < length (fields_of c.args.fields.now) = omega (arith, c.places-test.true, c.requires) in
    field-there (fields_of c.args.fields.now) c.places.i there (sym c.in_default.ensures.value)

pub returns-in_err-located-clause-row : goal.returns-in_err-located-clause-row
returns-in_err-located-clause-row c =
    let p = err_from_is_err_and c.from_residual.result c.from_residual.ensures.1 in
    let types = c.args.types.now in
    let fields = fields_of c.args.fields.now in
    let there : c.places.i < length fields = omega (arith, c.places-test.true, c.requires) in
    let text = field-get fields c.places.i c.in-Some.text.now (sym c.in-Some.ensures.value) in
    let place = field_there types fields c.places.i Integer c.in-Some.text.now c.requires c.places-test.true text in
    let fault = ap (λ said. located c.args.number (c.places.i + 1) said) (sym c.cell.ensures) ∙ sym c.located.ensures ∙ c.in_err-located.was in
    rw (p.1, p.2) (place_fault (cell_at c.args.number) (zip types fields) c.places.i (Integer, []) _ place.inside place.is c.args.cells.now.items c.places.cells.items _ c.places.invariant.cells fault)

pub places-preserved : goal.places-preserved
places-preserved c =
    let inv = c.places.invariant in
    let types = c.args.types.now in
    let fields = fields_of c.args.fields.now in
    let there : c.places.i < length fields = omega (arith, c.places-test.true, c.requires) in
    let text = field-get fields c.places.i c.in-Some.text.now (sym c.in-Some.ensures.value) in
    let place = field_there types fields c.places.i Integer c.in-Some.text.now c.requires c.places-test.true text in
    let good = ap (λ said. located c.args.number (c.places.i + 1) said) (sym c.cell.ensures) ∙ sym c.located.ensures ∙ c.in_ok-located.was in
    record {
      wide = omega (arith, c.in_ok-push.ensures.len, inv.wide);
      cells = rw c.in_ok-push.ensures.items (place_more (cell_at c.args.number) (zip types fields) c.places.i (Integer, []) _ place.inside place.is c.args.cells.now.items c.places.cells.items _ inv.cells good);
    }

pub returns-clause-row : goal.returns-clause-row
returns-clause-row c =
    let types = c.args.types.now in
    let fields = fields_of c.args.fields.now in
    let ends : drop c.places.i (zip types fields) ≡ [] = drop_all c.places.i (zip types fields) (omega (arith, c.places-test.false, c.requires, length-zip types fields)) in
    grow_done _ _ _ (rw ends at c.places.invariant.cells)
