use Rattle.std.proofs.Common.{FitsSigned, List, Option, ap, arith, get_or, is_some, length, length-take, map, replicate, rules, subst, sym, take, w64, ℕ, ℤ, ◌++◌, ◌+◌, ◌<◌, ◌≡◌, ◌≤◌, ◌^◌, ◌∙◌}
use Rattle.std.specs.List.{All}
use Rattle.std.proofs.lemmas.List.{length-replicate}
use Rattle.bw_mask.specs.Masks.{row_at}
use Rattle.bw_code.specs.Columns.{Fit, code_at, count}
use Rattle.bw_code.specs.Encodings.{width}
use Rattle.bw_code.specs.declared.encoding.Encoding.{Encoding}
use Rattle.bw_code.specs.declared.encoding.Encoding.TheVariants as by
use Rattle.bw_code.specs.declared.offset.Offset.{Offset}
use Rattle.bw_code.proofs.Lists.{made_is, made_len}
use Rattle.bw_column.specs.Codes.{AreRowCodes, IsCoded, codes_for, value_from}
use Rattle.bw_column.specs.Columns.{ColumnView}
use Rattle.bw_column.specs.PlaneSources.{ArePlanesOf}
use Rattle.bw_column.specs.Storing.{layout_of, list_of}
use Rattle.bw_column.specs.Values.{IsNullOrHeld, IsNullOrStorable}
use Rattle.bw_column.proofs.Changed.{codes_fit, rows_extended, values_extended}
use Rattle.bw_column.proofs.Held.{all_storable}
use Rattle.bw_column.proofs.Lain.{lain_codes, lain_rows}
use Rattle.bw_vertical.specs.Planes.{code_by_planes}
use Rattle.bw_column.proofs.column.Column.extend_codes.Goals as goal

-- codes that are read from the planes of the distances of some cells are the codes of these cells
codes_read : (o : Offset) (e : Encoding) (cells : List (Option ℤ)) (block : List (List ℕ)) (present : List ℕ) (n : ℕ) (codes : List ℕ) → FitsSigned w64 o.base → length cells ≡ n → n ≤ 2048
    → All (IsCoded (by.Offset o)) cells → All IsNullOrStorable cells → ArePlanesOf o.width o.base cells block present → e ≡ by.Offset o
    → length codes ≡ n → ((r : ℕ) → r < n → get_or codes r 0 ≡ code_by_planes o.width block r) → codes ≡ codes_for e cells
codes_read o e cells block present n codes fits long few coded storable are is size each =
    made_is n (code_by_planes o.width block) codes 0 size each ∙ lain_codes o cells block present n fits long few coded storable are ∙ ap (λ d. codes_for d cells) (sym is)

-- the front of the buffer that they are read to
front : (n : ℕ) → n ≤ 2048 → length (take n (replicate {A = ℕ} 2048 0)) ≡ n
front n few = omega (arith, few, length-take n (replicate {A = ℕ} 2048 0), length-replicate {A = ℕ} 2048 0)

pub extend-requires-clause-fit : goal.extend-requires-clause-fit
extend-requires-clause-fit c =
    let given = c.requires.cells in
    let cells = given.0 in
    let o = c.args.offset in
    let e = c.self.inside.encoding in
    let codes = c.read_codes_of_planes.new.out in
    let fits : FitsSigned w64 o.base = search rules in
    let is : e ≡ by.Offset o = ap (λ (v : ColumnView). v.encoding) c.self.view_is ∙ c.requires.encoding in
    let coded_e : All (IsCoded e) cells = subst (λ d. All (IsCoded d) cells) (sym is) given.2 in
    let size = c.read_codes_of_planes.ensures.len ∙ front c.args.n c.requires.block in
    let read : codes ≡ codes_for e cells =
    codes_read o e cells c.args.block.now c.args.present.now c.args.n codes fits given.1 c.requires.block given.2 (all_storable c.args.self.now.layout cells given.3) given.4 is size (λ r h. c.read_codes_of_planes.ensures.codes r (omega (arith, h, front c.args.n c.requires.block))) in
    rw c.self.invariant.width (subst (Fit (width e)) (sym read) (codes_fit e c.self.invariant.sound cells coded_e))

pub extend-requires-clause-room : goal.extend-requires-clause-room
extend-requires-clause-room c =
    let s = c.self.inside in
    let old = list_of s.codes in
    let size = c.read_codes_of_planes.ensures.len ∙ front c.args.n c.requires.block in
    let many : length c.args.self.now.values ≡ count old = ap (λ (v : ColumnView). length v.values) (sym c.self.view_is) ∙ made_len (count old) (λ i. value_from s.encoding (code_at old i) (row_at s.nonnull i)) in
    omega (arith, c.requires.room, many, size, ap (λ (v : ColumnView). v.room) c.self.view_is)

pub extend-requires-clause-few : goal.extend-requires-clause-few
extend-requires-clause-few c =
    let s = c.self.inside in
    let old = list_of s.codes in
    let size = c.read_codes_of_planes.ensures.len ∙ front c.args.n c.requires.block in
    let many : length c.args.self.now.values ≡ count old = ap (λ (v : ColumnView). length v.values) (sym c.self.view_is) ∙ made_len (count old) (λ i. value_from s.encoding (code_at old i) (row_at s.nonnull i)) in
    omega (arith, c.requires.few, many, size)

pub invariant_of-self : goal.invariant_of-self
invariant_of-self c =
    let given = c.requires.cells in
    let cells = given.0 in
    let long = given.1 in
    let s = c.self.inside in
    let o = c.args.offset in
    let e = s.encoding in
    let n = c.args.n in
    let block = c.args.block.now in
    let present = c.args.present.now in
    let old = list_of s.codes in
    let new = list_of c.extend.new.self in
    let rows = c.push_words.new.mask in
    let codes = c.read_codes_of_planes.new.out in
    let coded : All (IsCoded (by.Offset o)) cells = given.2 in
    let layout : layout_of s.codes ≡ c.args.self.now.layout = ap (λ (v : ColumnView). v.layout) c.self.view_is in
    let held : All (IsNullOrHeld (layout_of s.codes)) cells = subst (λ l. All (IsNullOrHeld l) cells) (sym layout) given.3 in
    let are = given.4 in
    let fits : FitsSigned w64 o.base = search rules in
    let is : e ≡ by.Offset o = ap (λ (v : ColumnView). v.encoding) c.self.view_is ∙ c.requires.encoding in
    let storable = all_storable (layout_of s.codes) cells held in
    let many : length c.args.self.now.values ≡ count old = ap (λ (v : ColumnView). length v.values) (sym c.self.view_is) ∙ made_len (count old) (λ i. value_from e (code_at old i) (row_at s.nonnull i)) in
    let room : count old + length cells ≤ 2 ^ 24 = omega (arith, c.requires.few, long, many) in
    let size = c.read_codes_of_planes.ensures.len ∙ front n c.requires.block in
    let read : codes ≡ codes_for e cells = codes_read o e cells block present n codes fits long c.requires.block coded storable are is size (λ r h. c.read_codes_of_planes.ensures.codes r (omega (arith, h, front n c.requires.block))) in
    let codes_are : (list_of c.extend.new.self).codes ≡ old.codes ++ codes_for e cells = c.extend.ensures.codes ∙ ap (λ xs. old.codes ++ xs) read in
    let rows_are : c.push_words.new.mask.rows ≡ s.nonnull.rows ++ map is_some cells =
    c.push_words.ensures.rows ∙ ap (λ xs. s.nonnull.rows ++ xs) (lain_rows o cells block present n fits long c.requires.block coded storable are) in
    let coded_e : All (IsCoded e) cells = subst (λ d. All (IsCoded d) cells) (sym is) coded in
    subst (λ m. AreRowCodes m e new rows) (sym c.extend.ensures.layout)
    (rows_extended e old new s.nonnull rows c.self.invariant c.extend.ensures.shape.width cells coded_e held room codes_are rows_are)

pub returns-clause-values : goal.returns-clause-values
returns-clause-values c cells long coded held are =
    let s = c.self.inside in
    let o = c.args.offset in
    let e = s.encoding in
    let n = c.args.n in
    let block = c.args.block.now in
    let present = c.args.present.now in
    let old = list_of s.codes in
    let new = list_of c.extend.new.self in
    let rows = c.push_words.new.mask in
    let codes = c.read_codes_of_planes.new.out in
    let layout : layout_of s.codes ≡ c.args.self.now.layout = ap (λ (v : ColumnView). v.layout) c.self.view_is in
    let here : All (IsNullOrHeld (layout_of s.codes)) cells = subst (λ l. All (IsNullOrHeld l) cells) (sym layout) held in
    let fits : FitsSigned w64 o.base = search rules in
    let is : e ≡ by.Offset o = ap (λ (v : ColumnView). v.encoding) c.self.view_is ∙ c.requires.encoding in
    let storable = all_storable (layout_of s.codes) cells here in
    let many : length c.args.self.now.values ≡ count old = ap (λ (v : ColumnView). length v.values) (sym c.self.view_is) ∙ made_len (count old) (λ i. value_from e (code_at old i) (row_at s.nonnull i)) in
    let room : count old + length cells ≤ 2 ^ 24 = omega (arith, c.requires.few, long, many) in
    let size = c.read_codes_of_planes.ensures.len ∙ front n c.requires.block in
    let read : codes ≡ codes_for e cells = codes_read o e cells block present n codes fits long c.requires.block coded storable are is size (λ r h. c.read_codes_of_planes.ensures.codes r (omega (arith, h, front n c.requires.block))) in
    let codes_are : (list_of c.extend.new.self).codes ≡ old.codes ++ codes_for e cells = c.extend.ensures.codes ∙ ap (λ xs. old.codes ++ xs) read in
    let rows_are : c.push_words.new.mask.rows ≡ s.nonnull.rows ++ map is_some cells =
    c.push_words.ensures.rows ∙ ap (λ xs. s.nonnull.rows ++ xs) (lain_rows o cells block present n fits long c.requires.block coded storable are) in
    let coded_e : All (IsCoded e) cells = subst (λ d. All (IsCoded d) cells) (sym is) coded in
    rw (← c.self.view_is) (values_extended e old new s.nonnull rows c.self.invariant c.extend.ensures.shape.width cells coded_e here room codes_are rows_are)
