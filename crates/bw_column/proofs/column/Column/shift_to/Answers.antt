use Rattle.std.proofs.Common.{FitsSigned, ap, of_z, pos, refl, rules, subst, sym, to_z, w64, ℕ, ◌-ℤ◌, ◌<◌, ◌^◌, ◌∙◌, ◌≡◌, ◌≤◌}
use Rattle.std.proofs.lemmas.Int.{to_z-of_z}
use Rattle.bw_mask.specs.Masks.{MaskRows, row_at}
use Rattle.bw_code.specs.Columns.{CodeList, code_at, count}
use Rattle.bw_code.specs.Shifts.{StaysBelow, shifted}
use Rattle.bw_code.specs.declared.offset.Offset.{Offset}
use Rattle.bw_code.specs.declared.encoding.Encoding.TheVariants as by
use Rattle.bw_column.specs.Codes.{AreRowCodes}
use Rattle.bw_column.specs.Columns.{ColumnView}
use Rattle.bw_column.specs.Storing.{layout_of, list_of}
use Rattle.bw_column.specs.Values.{widest}
use Rattle.bw_column.proofs.Shifting.{column_fits, column_same, column_shifted}
use Rattle.bw_column.proofs.column.Column.shift_to.Goals as goal

-- the bases are 64-bit integers
same : (own o : Offset) → FitsSigned w64 own.base → FitsSigned w64 o.base → to_z w64 (of_z w64 own.base) -ℤ to_z w64 (of_z w64 o.base) ≡ own.base -ℤ o.base
same own o f t = rw (to_z-of_z w64 own.base f, to_z-of_z w64 o.base t) refl

each : (own o : Offset) (old new : CodeList) (rows : MaskRows) → FitsSigned w64 own.base → FitsSigned w64 o.base
    → ((i : ℕ) → i < count old → pos (code_at new i) ≡ shifted (to_z w64 (of_z w64 own.base) -ℤ to_z w64 (of_z w64 o.base)) (row_at rows i) (code_at old i))
    → (i : ℕ) → i < count old → pos (code_at new i) ≡ shifted (own.base -ℤ o.base) (row_at rows i) (code_at old i)
each own o old new rows f t is i h = is i h ∙ ap (λ z. shifted z (row_at rows i) (code_at old i)) (same own o f t)

pub shift-requires-clause-fit : goal.shift-requires-clause-fit
shift-requires-clause-fit c i h =
    let s = c.self.inside in
    subst (λ z. StaysBelow (2 ^ c.args.offset.width) (shifted z (row_at s.nonnull i) (code_at (list_of s.codes) i))) (sym (same c.in-Offset.own c.args.offset (search rules) (search rules)))
    (column_fits s.encoding c.in-Offset.own c.args.offset (list_of s.codes) s.nonnull c.args.self.now.values c.in-Offset.is c.self.invariant (ap (λ (v : ColumnView). v.values) c.self.view_is) c.requires.2 i h)

pub invariant_of-self : goal.invariant_of-self
invariant_of-self c =
    let s = c.self.inside in
    let narrow : c.args.offset.width ≤ widest (layout_of s.codes) = rw (← c.self.view_is) at c.requires.3 in
    subst (λ l. AreRowCodes l (by.Offset c.args.offset) (list_of c.shift.new.self) s.nonnull) (sym c.shift.ensures.layout)
    (column_shifted s.encoding c.in-Offset.own c.args.offset (list_of s.codes) s.nonnull c.args.self.now.values c.in-Offset.is c.self.invariant (ap (λ (v : ColumnView). v.values) c.self.view_is) c.requires.2 narrow
    (list_of c.shift.new.self) c.shift.ensures.width c.shift.ensures.count (each c.in-Offset.own c.args.offset (list_of s.codes) (list_of c.shift.new.self) s.nonnull (search rules) (search rules) c.shift.ensures.codes))

pub returns-clause-values : goal.returns-clause-values
returns-clause-values c =
    let s = c.self.inside in
    let narrow : c.args.offset.width ≤ widest (layout_of s.codes) = rw (← c.self.view_is) at c.requires.3 in
    column_same s.encoding c.in-Offset.own c.args.offset (list_of s.codes) s.nonnull c.args.self.now.values c.in-Offset.is c.self.invariant (ap (λ (v : ColumnView). v.values) c.self.view_is) c.requires.2 narrow
    (list_of c.shift.new.self) c.shift.ensures.width c.shift.ensures.count (each c.in-Offset.own c.args.offset (list_of s.codes) (list_of c.shift.new.self) s.nonnull (search rules) (search rules) c.shift.ensures.codes)
