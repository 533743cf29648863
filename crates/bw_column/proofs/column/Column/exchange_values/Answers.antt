use Rattle.std.proofs.Common.{ap, arith, subst, sym, ◌∙◌, ◌≡◌}
use Rattle.bw_mask.specs.Masks.{len}
use Rattle.bw_code.specs.Columns.{count}
use Rattle.bw_code.specs.Encodings.{width}
use Rattle.bw_code.proofs.Lists.{made_len}
use Rattle.bw_column.specs.Codes.{AreRowCodes}
use Rattle.bw_column.specs.Columns.{ColumnView}
use Rattle.bw_column.specs.Storing.{layout_of, list_of}
use Rattle.bw_column.proofs.Exchanged.{rows_taken, values_taken}
use Rattle.bw_column.proofs.column.Column.exchange_values.Goals as goal

pub exchange_rows-requires-clause-layout : goal.exchange_rows-requires-clause-layout
exchange_rows-requires-clause-layout c = ap (λ (v : ColumnView). v.layout) c.other.view_is ∙ c.requires.layout ∙ sym (ap (λ (v : ColumnView). v.layout) c.self.view_is)

pub exchange_rows-requires-clause-width : goal.exchange_rows-requires-clause-width
exchange_rows-requires-clause-width c =
    let alike : c.other.inside.encoding ≡ c.self.inside.encoding = ap (λ (v : ColumnView). v.encoding) c.other.view_is ∙ c.requires.encoding ∙ sym (ap (λ (v : ColumnView). v.encoding) c.self.view_is) in
    c.other.invariant.width ∙ ap width alike ∙ sym c.self.invariant.width

pub exchange_rows-requires-clause-other : goal.exchange_rows-requires-clause-other
exchange_rows-requires-clause-other c = grind (arith, made_len)

pub exchange_rows-requires-clause-rows : goal.exchange_rows-requires-clause-rows
exchange_rows-requires-clause-rows c = grind (arith, made_len)

pub exchange_bits-requires-clause-other : goal.exchange_bits-requires-clause-other
exchange_bits-requires-clause-other c =
    let many : count (list_of c.other.inside.codes) ≡ count (list_of c.self.inside.codes) = grind (arith, made_len) in
    omega (arith, many, c.other.invariant.len, c.self.invariant.len)

pub exchange_bits-requires-clause-rows : goal.exchange_bits-requires-clause-rows
exchange_bits-requires-clause-rows c =
    let long : len c.args.places.now ≡ count (list_of c.self.inside.codes) = grind (arith, made_len) in
    omega (arith, long, c.self.invariant.len)

module _ (c : goal.After-exchange_bits) where
  alike : c.other.inside.encoding ≡ c.self.inside.encoding
  alike = ap (λ (v : ColumnView). v.encoding) c.other.view_is ∙ c.requires.encoding ∙ sym (ap (λ (v : ColumnView). v.encoding) c.self.view_is)

  one_layout : layout_of c.other.inside.codes ≡ layout_of c.self.inside.codes
  one_layout = ap (λ (v : ColumnView). v.layout) c.other.view_is ∙ c.requires.layout ∙ sym (ap (λ (v : ColumnView). v.layout) c.self.view_is)

  many : count (list_of c.other.inside.codes) ≡ count (list_of c.self.inside.codes)
  many = grind (arith, made_len)

  -- the codes of each column as those of the other one's layout and encoding
  others_here : AreRowCodes (layout_of c.self.inside.codes) c.self.inside.encoding (list_of c.other.inside.codes) c.other.inside.nonnull
  others_here = subst (λ l. AreRowCodes l c.self.inside.encoding (list_of c.other.inside.codes) c.other.inside.nonnull) one_layout
      (subst (λ e. AreRowCodes (layout_of c.other.inside.codes) e (list_of c.other.inside.codes) c.other.inside.nonnull) alike c.other.invariant)

  own_there : AreRowCodes (layout_of c.other.inside.codes) c.other.inside.encoding (list_of c.self.inside.codes) c.self.inside.nonnull
  own_there = subst (λ l. AreRowCodes l c.other.inside.encoding (list_of c.self.inside.codes) c.self.inside.nonnull) (sym one_layout)
      (subst (λ e. AreRowCodes (layout_of c.self.inside.codes) e (list_of c.self.inside.codes) c.self.inside.nonnull) (sym alike) c.self.invariant)

pub invariant_of-self : goal.invariant_of-self
invariant_of-self c =
    let s = c.self.inside in
    let o = c.other.inside in
    let v = c.exchange_rows.ensures in
    let b = c.exchange_bits.ensures in
    subst (λ l. AreRowCodes l s.encoding (list_of c.exchange_rows.new.self) c.exchange_bits.new.nonnull) (sym v.layout)
    (rows_taken s.encoding (list_of s.codes) (list_of o.codes) (list_of c.exchange_rows.new.self) s.nonnull o.nonnull c.exchange_bits.new.nonnull c.args.places.now c.self.invariant (others_here c)
    v.shape.width v.count b.shape.0 v.codes b.rows)

pub invariant_of-other : goal.invariant_of-other
invariant_of-other c =
    let s = c.self.inside in
    let o = c.other.inside in
    let v = c.exchange_rows.ensures in
    let b = c.exchange_bits.ensures in
    subst (λ l. AreRowCodes l o.encoding (list_of c.exchange_rows.new.other) c.exchange_bits.new.other) (sym v.other_layout)
    (rows_taken o.encoding (list_of o.codes) (list_of s.codes) (list_of c.exchange_rows.new.other) o.nonnull s.nonnull c.exchange_bits.new.other c.args.places.now c.other.invariant (own_there c)
    v.other_shape.width v.other_count b.other_shape.0 (λ j h. v.others j (omega (arith, h, many c))) b.others)

pub returns-clause-values : goal.returns-clause-values
returns-clause-values c =
    let s = c.self.inside in
    let o = c.other.inside in
    let v = c.exchange_rows.ensures in
    let b = c.exchange_bits.ensures in
    rw (← c.self.view_is, ← c.other.view_is, alike c)
    (values_taken s.encoding (list_of s.codes) (list_of o.codes) (list_of c.exchange_rows.new.self) s.nonnull o.nonnull c.exchange_bits.new.nonnull c.args.places.now c.self.invariant (others_here c)
    v.shape.width v.count b.shape.0 v.codes b.rows)

pub returns-clause-others : goal.returns-clause-others
returns-clause-others c =
    let s = c.self.inside in
    let o = c.other.inside in
    let v = c.exchange_rows.ensures in
    let b = c.exchange_bits.ensures in
    rw (← c.self.view_is, ← c.other.view_is, ← alike c)
    (values_taken o.encoding (list_of o.codes) (list_of s.codes) (list_of c.exchange_rows.new.other) o.nonnull s.nonnull c.exchange_bits.new.other c.args.places.now c.other.invariant (own_there c)
    v.other_shape.width v.other_count b.other_shape.0 (λ j h. v.others j (omega (arith, h, many c))) b.others)
