use Rattle.std.proofs.Common.{FitsSigned, ap, arith, is_some, length, map, rules, subst, sym, w64, ◌++◌, ◌+◌, ◌≡◌, ◌≤◌, ◌^◌, ◌∙◌}
use Rattle.std.specs.List.{All}
use Rattle.bw_mask.specs.Masks.{row_at}
use Rattle.bw_code.specs.Columns.{code_at, count}
use Rattle.bw_code.specs.Encodings.{width}
use Rattle.bw_code.specs.Lists.{made}
use Rattle.bw_code.specs.declared.encoding.Encoding.TheVariants as by
use Rattle.bw_code.proofs.Lists.{made_len}
use Rattle.bw_column.specs.Codes.{AreRowCodes, IsCoded, codes_for, value_from}
use Rattle.bw_column.specs.Columns.{ColumnView}
use Rattle.bw_column.specs.Storing.{layout_of, list_of}
use Rattle.bw_column.specs.Values.{IsNullOrHeld}
use Rattle.bw_column.proofs.Changed.{rows_extended, values_extended}
use Rattle.bw_column.proofs.Held.{all_storable}
use Rattle.bw_column.proofs.Lain.{lain_codes, lain_rest, lain_rows}
use Rattle.bw_vertical.specs.Planes.{code_by_planes}
use Rattle.bw_column.proofs.column.Column.extend_planes.Goals as goal

pub invariant_of-self-2 : goal.invariant_of-self-2
invariant_of-self-2 c =
    let given = c.requires.cells in
    let cells = given.0 in
    let long = given.1 in
    let s = c.self.inside in
    let o = c.args.offset in
    let e = s.encoding in
    let n = c.args.n in
    let block = c.args.block.now in
    let present = c.args.present.now in
    let old = list_of s.codes in
    let new = list_of c.extend_block.new.self in
    let rows = c.push_words.new.mask in
    let coded : All (IsCoded (by.Offset o)) cells = given.2 in
    let layout : layout_of s.codes ≡ c.args.self.now.layout = ap (λ (v : ColumnView). v.layout) c.self.view_is in
    let held : All (IsNullOrHeld (layout_of s.codes)) cells = subst (λ l. All (IsNullOrHeld l) cells) (sym layout) given.3 in
    let are = given.4 in
    let fits : FitsSigned w64 o.base = search rules in
    let is : e ≡ by.Offset o = ap (λ (v : ColumnView). v.encoding) c.self.view_is ∙ c.requires.encoding in
    let storable = all_storable (layout_of s.codes) cells held in
    let wide : old.width ≡ o.width = c.self.invariant.width ∙ ap width is in
    let many : length c.args.self.now.values ≡ count old = ap (λ (v : ColumnView). length v.values) (sym c.self.view_is) ∙ made_len (count old) (λ i. value_from e (code_at old i) (row_at s.nonnull i)) in
    let room : count old + length cells ≤ 2 ^ 24 = omega (arith, c.requires.few, long, many) in
    let codes_are : (list_of c.extend_block.new.self).codes ≡ old.codes ++ codes_for e cells =
    c.extend_block.ensures.codes c.if-not-extend_block.false
    ∙ ap (λ xs. old.codes ++ xs) (ap (λ k. made n (code_by_planes k block)) wide ∙ lain_codes o cells block present n fits long c.requires.block coded storable are ∙ ap (λ d. codes_for d cells) (sym is)) in
    let rows_are : c.push_words.new.mask.rows ≡ s.nonnull.rows ++ map is_some cells =
    c.push_words.ensures.rows ∙ ap (λ xs. s.nonnull.rows ++ xs) (lain_rows o cells block present n fits long c.requires.block coded storable are) in
    let coded_e : All (IsCoded e) cells = subst (λ d. All (IsCoded d) cells) (sym is) coded in
    subst (λ m. AreRowCodes m e new rows) (sym c.extend_block.ensures.layout)
    (rows_extended e old new s.nonnull rows c.self.invariant c.extend_block.ensures.shape.width cells coded_e held room codes_are rows_are)

pub returns-clause-values : goal.returns-clause-values
returns-clause-values c told cells long coded held are =
    let s = c.self.inside in
    let o = c.args.offset in
    let e = s.encoding in
    let n = c.args.n in
    let block = c.args.block.now in
    let present = c.args.present.now in
    let old = list_of s.codes in
    let new = list_of c.extend_block.new.self in
    let rows = c.push_words.new.mask in
    let layout : layout_of s.codes ≡ c.args.self.now.layout = ap (λ (v : ColumnView). v.layout) c.self.view_is in
    let here : All (IsNullOrHeld (layout_of s.codes)) cells = subst (λ l. All (IsNullOrHeld l) cells) (sym layout) held in
    let fits : FitsSigned w64 o.base = search rules in
    let is : e ≡ by.Offset o = ap (λ (v : ColumnView). v.encoding) c.self.view_is ∙ c.requires.encoding in
    let storable = all_storable (layout_of s.codes) cells here in
    let wide : old.width ≡ o.width = c.self.invariant.width ∙ ap width is in
    let many : length c.args.self.now.values ≡ count old = ap (λ (v : ColumnView). length v.values) (sym c.self.view_is) ∙ made_len (count old) (λ i. value_from e (code_at old i) (row_at s.nonnull i)) in
    let room : count old + length cells ≤ 2 ^ 24 = omega (arith, c.requires.few, long, many) in
    let codes_are : (list_of c.extend_block.new.self).codes ≡ old.codes ++ codes_for e cells =
    c.extend_block.ensures.codes c.if-not-extend_block.false
    ∙ ap (λ xs. old.codes ++ xs) (ap (λ k. made n (code_by_planes k block)) wide ∙ lain_codes o cells block present n fits long c.requires.block coded storable are ∙ ap (λ d. codes_for d cells) (sym is)) in
    let rows_are : c.push_words.new.mask.rows ≡ s.nonnull.rows ++ map is_some cells =
    c.push_words.ensures.rows ∙ ap (λ xs. s.nonnull.rows ++ xs) (lain_rows o cells block present n fits long c.requires.block coded storable are) in
    let coded_e : All (IsCoded e) cells = subst (λ d. All (IsCoded d) cells) (sym is) coded in
    rw (← c.self.view_is) (values_extended e old new s.nonnull rows c.self.invariant c.extend_block.ensures.shape.width cells coded_e here room codes_are rows_are)

pub extend_block-requires-clause-rest : goal.extend_block-requires-clause-rest
extend_block-requires-clause-rest c b r low past inside =
    let given = c.requires.cells in
    let s = c.self.inside in
    let o = c.args.offset in
    let fits : FitsSigned w64 o.base = search rules in
    let is : s.encoding ≡ by.Offset o = ap (λ (v : ColumnView). v.encoding) c.self.view_is ∙ c.requires.encoding in
    let wide : (list_of s.codes).width ≡ o.width = c.self.invariant.width ∙ ap width is in
    lain_rest o given.0 c.args.block.now c.args.present.now c.args.n fits given.1 c.requires.block given.2 (all_storable c.args.self.now.layout given.0 given.3) given.4 b r (omega (arith, low, wide)) past inside
