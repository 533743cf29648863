use Rattle.std.proofs.Common.{ap, refl, subst, sym, ◌∙◌}
use Rattle.bw_column.specs.Codes.{AreRowCodes, values_from}
use Rattle.bw_column.specs.Columns.{ColumnView}
use Rattle.bw_column.specs.Storing.{list_of}
use Rattle.bw_column.proofs.RaisedHere.{raised_codes_here, raised_count, raised_fits, raised_values_here}
use Rattle.bw_column.proofs.column.Column.raise_to.Goals as goal

-- the facts: `s` is what the column holds, and `can` says what the step needs of it
pub shift-requires-clause-rows : goal.shift-requires-clause-rows
shift-requires-clause-rows c =
    let s = c.self.inside in
    let can = rw (← c.self.view_is) at c.requires in
    raised_count s.encoding c.args.raise.encoding (list_of s.codes) s.nonnull c.args.raise.above (values_from s.encoding (list_of s.codes) s.nonnull) c.self.invariant refl can.sound can.width can.coded can.codes can.rows

pub shift-requires-clause-fit : goal.shift-requires-clause-fit
shift-requires-clause-fit c i h =
    let s = c.self.inside in
    let can = rw (← c.self.view_is) at c.requires in
    rw c.width.ensures.is (raised_fits s.encoding c.args.raise.encoding (list_of s.codes) s.nonnull c.args.raise.above (values_from s.encoding (list_of s.codes) s.nonnull) c.self.invariant refl can.sound can.width can.coded can.codes i h)

pub invariant_of-self : goal.invariant_of-self
invariant_of-self c =
    let s = c.self.inside in
    let can = rw (← c.self.view_is) at c.requires in
    subst (λ l. AreRowCodes l c.args.raise.encoding (list_of c.shift.new.self) s.nonnull) (sym c.shift.ensures.layout)
    (raised_codes_here s.encoding c.args.raise.encoding (list_of s.codes) s.nonnull c.args.raise.above (values_from s.encoding (list_of s.codes) s.nonnull) c.self.invariant refl can.sound can.width can.coded can.codes
    (list_of c.shift.new.self) (c.shift.ensures.width ∙ c.width.ensures.is) c.shift.ensures.count c.shift.ensures.codes)

pub returns-clause-values : goal.returns-clause-values
returns-clause-values c =
    let s = c.self.inside in
    let can = rw (← c.self.view_is) at c.requires in
    raised_values_here s.encoding c.args.raise.encoding (list_of s.codes) s.nonnull c.args.raise.above (values_from s.encoding (list_of s.codes) s.nonnull) c.self.invariant refl can.sound can.width can.coded can.codes
    (list_of c.shift.new.self) (c.shift.ensures.width ∙ c.width.ensures.is) c.shift.ensures.count c.shift.ensures.codes
    ∙ ap (λ (v : ColumnView). v.values) c.self.view_is
