use Rattle.std.proofs.Common.{FitsSigned, ap, arith, of_z, pos, refl, rules, subst, sym, to_z, true, w64, ℕ, ◌-ℤ◌, ◌<◌, ◌^◌, ◌∙◌, ◌≡◌}
use Rattle.std.specs.List.{All}
use Rattle.std.specs.Prelude.{if◌then◌else◌}
use Rattle.std.proofs.lemmas.Int.{to_z-of_z}
use Rattle.bw_mask.specs.Masks.{len, row_at}
use Rattle.bw_code.specs.Columns.{code_at, count}
use Rattle.bw_code.specs.Shifts.{StaysBelow, shifted}
use Rattle.bw_code.specs.declared.encoding.Encoding.TheVariants as by
use Rattle.bw_code.specs.declared.offset.Offset.{Offset}
use Rattle.bw_code.proofs.Lists.{made_len}
use Rattle.bw_column.specs.Codes.{AreRowCodes, IsCoded}
use Rattle.bw_column.specs.Columns.{ColumnView}
use Rattle.bw_column.specs.Storing.{layout_of, list_of}
use Rattle.bw_column.specs.Values.{IsNullOrHeld}
use Rattle.bw_column.proofs.Stored.{codes_fit_here, rows_stored, values_stored}
use Rattle.bw_column.proofs.column.Column.copy_stored.Goals as goal

-- the bases are 64-bit integers
same : (own o : Offset) → FitsSigned w64 own.base → FitsSigned w64 o.base → to_z w64 (of_z w64 own.base) -ℤ to_z w64 (of_z w64 o.base) ≡ own.base -ℤ o.base
same own o f t = rw (to_z-of_z w64 own.base f, to_z-of_z w64 o.base t) refl

pub copy_rows-requires-clause-count : goal.copy_rows-requires-clause-count
copy_rows-requires-clause-count c = grind (arith, made_len)

pub copy_rows-requires-clause-rows : goal.copy_rows-requires-clause-rows
copy_rows-requires-clause-rows c = grind (arith, made_len)

pub copy_rows-requires-clause-moved : goal.copy_rows-requires-clause-moved
copy_rows-requires-clause-moved c =
    let many : count (list_of c.copy.inside.codes) ≡ count (list_of c.self.inside.codes) = grind (arith, made_len) in
    omega (arith, many, c.copy.invariant.len)

pub copy_rows-requires-clause-fit : goal.copy_rows-requires-clause-fit
copy_rows-requires-clause-fit c i h =
    let s = c.self.inside in
    let o = c.copy.inside in
    let own = c.in-Offset.other in
    let e_is : s.encoding ≡ by.Offset c.args.offset = ap (λ (v : ColumnView). v.encoding) c.self.view_is ∙ c.requires.encoding in
    let coded : All (IsCoded (by.Offset c.args.offset)) c.args.copy.now.values = rw c.requires.encoding at c.requires.coded in
    let held : All (IsNullOrHeld (layout_of s.codes)) c.args.copy.now.values = rw (← c.self.view_is) at c.requires.held in
    let many : count (list_of o.codes) ≡ count (list_of s.codes) = grind (arith, made_len) in
    subst (λ z. StaysBelow (2 ^ (list_of s.codes).width) (shifted z (row_at o.nonnull i) (code_at (list_of o.codes) i))) (sym (same own c.args.offset (search rules) (search rules)))
    (codes_fit_here s.encoding o.encoding own c.args.offset e_is c.in-Offset.is (list_of s.codes) (list_of o.codes) s.nonnull o.nonnull c.args.places.now c.self.invariant c.copy.invariant
    c.args.copy.now.values (ap (λ (v : ColumnView). v.values) c.copy.view_is) coded held many i h)

pub put_all_present-requires-clause-rows : goal.put_all_present-requires-clause-rows
put_all_present-requires-clause-rows c =
    let long : len c.args.places.now ≡ count (list_of c.self.inside.codes) = grind (arith, made_len) in
    omega (arith, long, c.self.invariant.len)

pub put_all_present-requires-clause-present : goal.put_all_present-requires-clause-present
put_all_present-requires-clause-present c =
    let many : count (list_of c.copy.inside.codes) ≡ count (list_of c.self.inside.codes) = grind (arith, made_len) in
    omega (arith, many, c.copy.invariant.len, c.self.invariant.len)

module _ (c : goal.After-put_all_present) where
  e_is : c.self.inside.encoding ≡ by.Offset c.args.offset
  e_is = ap (λ (v : ColumnView). v.encoding) c.self.view_is ∙ c.requires.encoding

  coded : All (IsCoded (by.Offset c.args.offset)) c.args.copy.now.values
  coded = rw c.requires.encoding at c.requires.coded

  held : All (IsNullOrHeld (layout_of c.self.inside.codes)) c.args.copy.now.values
  held = rw (← c.self.view_is) at c.requires.held

  many : count (list_of c.copy.inside.codes) ≡ count (list_of c.self.inside.codes)
  many = grind (arith, made_len)

  copied : c.copy_rows.result ≡ true
  copied = grind (arith, c.if-not-copy_rows.false)

  each : (i : ℕ) → i < count (list_of c.self.inside.codes) → pos (code_at (list_of c.copy_rows.new.self) i)
      ≡ (if row_at c.args.places.now i then shifted (c.in-Offset.other.base -ℤ c.args.offset.base) (row_at c.copy.inside.nonnull i) (code_at (list_of c.copy.inside.codes) i) else pos (code_at (list_of c.self.inside.codes) i))
  each i h =
      c.copy_rows.ensures.codes copied i h
      ∙ ap (λ z. if row_at c.args.places.now i then shifted z (row_at c.copy.inside.nonnull i) (code_at (list_of c.copy.inside.codes) i) else pos (code_at (list_of c.self.inside.codes) i))
      (same c.in-Offset.other c.args.offset (search rules) (search rules))

pub invariant_of-self-2 : goal.invariant_of-self-2
invariant_of-self-2 c =
    let s = c.self.inside in
    let o = c.copy.inside in
    subst (λ l. AreRowCodes l s.encoding (list_of c.copy_rows.new.self) c.put_all_present.new.nonnull) (sym c.copy_rows.ensures.layout)
    (rows_stored s.encoding o.encoding c.in-Offset.other c.args.offset (e_is c) c.in-Offset.is (list_of s.codes) (list_of o.codes) s.nonnull o.nonnull c.args.places.now c.self.invariant c.copy.invariant
    c.args.copy.now.values (ap (λ (v : ColumnView). v.values) c.copy.view_is) (coded c) (held c) (many c)
    (list_of c.copy_rows.new.self) c.put_all_present.new.nonnull c.copy_rows.ensures.shape.width c.copy_rows.ensures.count c.put_all_present.ensures.shape.0 (each c) c.put_all_present.ensures.rows)

pub returns-clause-values : goal.returns-clause-values
returns-clause-values c copied =
    let s = c.self.inside in
    let o = c.copy.inside in
    rw (← c.self.view_is)
    (values_stored s.encoding o.encoding c.in-Offset.other c.args.offset (e_is c) c.in-Offset.is (list_of s.codes) (list_of o.codes) s.nonnull o.nonnull c.args.places.now c.self.invariant c.copy.invariant
    c.args.copy.now.values (ap (λ (v : ColumnView). v.values) c.copy.view_is) (coded c) (held c) (many c)
    (list_of c.copy_rows.new.self) c.put_all_present.new.nonnull c.copy_rows.ensures.shape.width c.copy_rows.ensures.count c.put_all_present.ensures.shape.0 (each c) c.put_all_present.ensures.rows)
