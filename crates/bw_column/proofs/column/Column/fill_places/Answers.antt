use Rattle.std.proofs.Common.{arith, subst, sym, ◌≡◌}
use Rattle.bw_mask.specs.Masks.{len}
use Rattle.bw_code.specs.Columns.{count}
use Rattle.bw_code.proofs.Lists.{made_len}
use Rattle.bw_column.specs.Codes.{AreRowCodes, IsCoded, code_for}
use Rattle.bw_column.specs.Storing.{layout_of, list_of}
use Rattle.bw_column.specs.Values.{IsNullOrHeld}
use Rattle.bw_column.proofs.Changed.{code_fits}
use Rattle.bw_column.proofs.Stored.{rows_given, values_given}
use Rattle.bw_column.proofs.column.Column.fill_places.Goals as goal

pub fill_rows-requires-clause-rows : goal.fill_rows-requires-clause-rows
fill_rows-requires-clause-rows c = grind (arith, made_len)

pub fill_rows-requires-clause-fits : goal.fill_rows-requires-clause-fits
fill_rows-requires-clause-fits c =
    let e = c.self.inside.encoding in
    let is : c.args.code ≡ code_for e c.args.value = rw (← c.self.view_is) at c.requires.code in
    let coded : IsCoded e c.args.value = rw (← c.self.view_is) at c.requires.coded in
    rw (is, c.self.invariant.width) (code_fits e c.self.invariant.sound c.args.value coded)

pub set_present-requires : goal.set_present-requires
set_present-requires c =
    let long : len c.args.places.now ≡ count (list_of c.self.inside.codes) = grind (arith, made_len) in
    omega (arith, long, c.self.invariant.len)

pub invariant_of-self : goal.invariant_of-self
invariant_of-self c =
    let s = c.self.inside in
    let is : c.args.code ≡ code_for s.encoding c.args.value = rw (← c.self.view_is) at c.requires.code in
    let coded : IsCoded s.encoding c.args.value = rw (← c.self.view_is) at c.requires.coded in
    let held : IsNullOrHeld (layout_of s.codes) c.args.value = rw (← c.self.view_is) at c.requires.held in
    subst (λ l. AreRowCodes l s.encoding (list_of c.fill_rows.new.self) c.set_present.new.nonnull) (sym c.fill_rows.ensures.layout)
    (rows_given s.encoding (list_of s.codes) (list_of c.fill_rows.new.self) s.nonnull c.set_present.new.nonnull c.args.places.now c.self.invariant c.args.value c.args.code is coded held
    c.fill_rows.ensures.shape.width c.fill_rows.ensures.count c.set_present.ensures.shape.0 c.fill_rows.ensures.codes (rw c.is_some.ensures at c.set_present.ensures.rows))

pub returns-clause-values : goal.returns-clause-values
returns-clause-values c =
    let s = c.self.inside in
    let is : c.args.code ≡ code_for s.encoding c.args.value = rw (← c.self.view_is) at c.requires.code in
    let coded : IsCoded s.encoding c.args.value = rw (← c.self.view_is) at c.requires.coded in
    let held : IsNullOrHeld (layout_of s.codes) c.args.value = rw (← c.self.view_is) at c.requires.held in
    rw (← c.self.view_is)
    (values_given s.encoding (list_of s.codes) (list_of c.fill_rows.new.self) s.nonnull c.set_present.new.nonnull c.args.places.now c.self.invariant c.args.value c.args.code is coded held
    c.fill_rows.ensures.shape.width c.fill_rows.ensures.count c.set_present.ensures.shape.0 c.fill_rows.ensures.codes (rw c.is_some.ensures at c.set_present.ensures.rows))
