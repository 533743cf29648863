use Rattle.std.proofs.Common.{get_or, of_z, pos, rules, to_z, w64, ◌≡◌}
use Rattle.std.proofs.lemmas.Int.{to_z-of_z}
use Rattle.bw_code.specs.Encodings.{code_of}
use Rattle.bw_column.proofs.RaisedHere.{can_raise_still, codes_one, fits_one}
use Rattle.bw_column.proofs.column.Column.step_to_entries.Goals as goal

pub raise_for-requires-clause-own_stands : goal.raise_for-requires-clause-own_stands
raise_for-requires-clause-own_stands g c = rw c.deref.ensures.value c.in_ok-own_stands.ensures.stands

pub returns-in-Some-clause-can : goal.returns-in-Some-clause-can
returns-in-Some-clause-can g c =
    let can = rw c.in-Some.is at c.in_ok-found.ensures.can in
    can_raise_still c.args.self.now c.reserve.new.self c.in-Some.found.raise c.reserve.ensures.keeps.values c.reserve.ensures.keeps.encoding can

pub returns-in-Some-clause-fits : goal.returns-in-Some-clause-fits
returns-in-Some-clause-fits g c =
    let x = get_or c.args.entries.now 0 (pos 0) in
    let same : to_z w64 (of_z w64 x) ≡ x = to_z-of_z w64 x (search rules) in
    let fits = rw (c.in-Some.is, same) at c.in_ok-found.ensures.fits in
    let kind = rw c.in-Some.is at c.in_ok-found.ensures.kind in
    fits_one c.in-Some.found.raise.encoding c.args.entries.now (pos 0) c.args.self.now.values (g.C.Cells.cells c.args.cells.now) c.if-entries-eq1.true kind c.requires.distinct fits

pub returns-in-Some-clause-codes : goal.returns-in-Some-clause-codes
returns-in-Some-clause-codes g c =
    let x = get_or c.args.entries.now 0 (pos 0) in
    let same : to_z w64 (of_z w64 x) ≡ x = to_z-of_z w64 x (search rules) in
    let code = rw (c.in-Some.is, same) at c.in_ok-found.ensures.code in
    codes_one (code_of c.in-Some.found.raise.encoding) c.args.entries.now (pos 0) c.in-Some.found.code c.in_ok-codes.codes.items c.if-entries-eq1.true (c.in_ok-codes.ensures.items_if_clones_equal (λ y h. h)) code

pub grown-requires-clause-own_stands : goal.grown-requires-clause-own_stands
grown-requires-clause-own_stands g c = rw c.deref.ensures.value c.in_ok-own_stands.ensures.stands
