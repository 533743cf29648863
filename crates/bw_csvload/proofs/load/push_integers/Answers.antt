use Rattle.std.proofs.Common.{[], ap, arith, length, map, sym, ◌<◌, ◌∙◌, ◌+◌}
use Rattle.std.proofs.lemmas.Result.{err_from_is_err_and}
use Rattle.bw_code.specs.declared.kind.ColumnType.TheVariants.{Integer}
use Rattle.csv.proofs.RecordFacts.{field-get, field-there}
use Rattle.csv.specs.Records.{fields_of}
use Rattle.bw_csvload.specs.Rows.{cell_at, located}
use Rattle.bw_csvload.proofs.Firsts.{integer_there, place_fault, place_more}
use Rattle.bw_csvload.proofs.load.push_integers.Goals as goal

pub unreachable-requires : goal.unreachable-requires
unreachable-requires c =
    let there : c.places.i < length (fields_of c.args.fields.now) = omega (arith, c.places-test.true, c.len-i-end.ensures) in
    field-there (fields_of c.args.fields.now) c.places.i there (sym c.in_default.ensures.value)

pub returns-in_err-located-clause-row : goal.returns-in_err-located-clause-row
returns-in_err-located-clause-row c =
    let p = err_from_is_err_and c.from_residual.result c.from_residual.ensures.1 in
    let fields = fields_of c.args.fields.now in
    let there : c.places.i < length fields = omega (arith, c.places-test.true, c.len-i-end.ensures) in
    let text = field-get fields c.places.i c.in-Some.text.now (sym c.in-Some.ensures.value) in
    let place = integer_there fields c.places.i c.in-Some.text.now there text in
    let fault = ap (λ said. located c.args.number (c.places.i + 1) said) (sym c.integer_cell.ensures) ∙ sym c.located.ensures ∙ c.in_err-located.was in
    rw (p.1, p.2) (place_fault (cell_at c.args.number) (map (λ text. (Integer, text)) fields) c.places.i (Integer, []) (Integer, c.in-Some.text.now) place.inside place.is c.args.cells.now.items c.places.cells.items _ c.places.invariant.cells fault)

pub places-preserved : goal.places-preserved
places-preserved c =
    let inv = c.places.invariant in
    let fields = fields_of c.args.fields.now in
    let there : c.places.i < length fields = omega (arith, c.places-test.true, c.len-i-end.ensures) in
    let text = field-get fields c.places.i c.in-Some.text.now (sym c.in-Some.ensures.value) in
    let place = integer_there fields c.places.i c.in-Some.text.now there text in
    let good = ap (λ said. located c.args.number (c.places.i + 1) said) (sym c.integer_cell.ensures) ∙ sym c.located.ensures ∙ c.in_ok-located.was in
    record {
      wide = omega (arith, c.in_ok-push.ensures.len, inv.wide);
      cells = rw c.in_ok-push.ensures.items (place_more (cell_at c.args.number) (map (λ text. (Integer, text)) fields) c.places.i (Integer, []) (Integer, c.in-Some.text.now) place.inside place.is c.args.cells.now.items c.places.cells.items _ inv.cells good);
    }
