use Rattle.std.proofs.Common.{All, ap, arith, get_or, length, subst, sym, ◌++◌, ◌+◌, ◌<◌, ◌≡◌, ◌≤◌, ◌^◌, ◌∙◌, ℕ}
use Rattle.bw_mask.specs.Masks.{bit_of, row_at}
use Rattle.bw_code.specs.Columns.{code_at, count}
use Rattle.bw_code.specs.Encodings.{width}
use Rattle.bw_code.specs.Lists.{made}
use Rattle.bw_column.specs.Codes.{AreRowCodes, IsRowCode, value_from}
use Rattle.bw_column.specs.Columns.{ColumnView}
use Rattle.bw_column.specs.Storing.{layout_of, list_of}
use Rattle.bw_column.specs.Values.{IsNullOrHeld}
use Rattle.bw_column.proofs.Blocks.{rows, rows_coded, rows_codes, rows_present}
use Rattle.bw_column.proofs.Changed.{rows_extended, values_extended}
use Rattle.bw_column.proofs.Raised.{word_codes, word_rows}
use Rattle.bw_code.proofs.Lists.{made_len}
use Rattle.bw_vertical.specs.Planes.{code_by}
use Rattle.bw_column.proofs.column.Column.extend_word.Goals as goal

pub extend_words-requires-clause-rest : goal.extend_words-requires-clause-rest
extend_words-requires-clause-rest c b r low past inside =
    let is : width c.self.inside.encoding ≡ width c.args.self.now.encoding = ap (λ (v : ColumnView). width v.encoding) c.self.view_is in
    c.requires.rest b r (omega (arith, low, c.self.invariant.width, is)) past inside

pub invariant_of-self : goal.invariant_of-self
invariant_of-self c =
    let s = c.self.inside in
    let e = s.encoding in
    let n = c.args.n in
    let words = c.args.words.now in
    let word = c.args.present in
    let old = list_of s.codes in
    let codes = made n (code_by (width e) words) in
    let long : length codes ≡ n = made_len n (code_by (width e) words) in
    let given : (k : ℕ) → k < n → IsRowCode e (code_by (width e) words k) (bit_of word k) = rw (← c.self.view_is) at c.requires.rows in
    let each : (k : ℕ) → k < length codes → IsRowCode e (get_or codes k 0) (bit_of word k) = word_codes e words word n given in
    let same : rows e codes word ≡ made n (λ k. value_from e (code_by (width e) words k) (bit_of word k)) = word_rows e words word n in
    let sound = c.self.invariant.sound in
    let held : All (IsNullOrHeld (layout_of s.codes)) (made n (λ k. value_from e (code_by (width e) words k) (bit_of word k))) = rw (← c.self.view_is) at c.requires.held in
    let kept : All (IsNullOrHeld (layout_of s.codes)) (rows e codes word) = rw same held in
    let many : length c.args.self.now.values ≡ count old = ap (λ (v : ColumnView). length v.values) (sym c.self.view_is) ∙ made_len (count old) (λ i. value_from e (code_at old i) (row_at s.nonnull i)) in
    let few : count old + length (rows e codes word) ≤ 2 ^ 24 = omega (arith, c.requires.few, many, long, made_len (length codes) (λ k. value_from e (get_or codes k 0) (bit_of word k))) in
    let codes_are = c.extend_words.ensures.codes ∙ ap (λ k. old.codes ++ made n (code_by k words)) c.self.invariant.width ∙ ap (λ xs. old.codes ++ xs) (rows_codes e sound codes word each) in
    let rows_are = c.push_bits.ensures.rows ∙ ap (λ k. s.nonnull.rows ++ made k (bit_of word)) (sym long) ∙ ap (λ xs. s.nonnull.rows ++ xs) (rows_present e sound codes word each) in
    subst (λ l. AreRowCodes l e (list_of c.extend_words.new.self) c.push_bits.new.self) (sym c.extend_words.ensures.layout)
    (rows_extended e old (list_of c.extend_words.new.self) s.nonnull c.push_bits.new.self c.self.invariant c.extend_words.ensures.shape.width (rows e codes word) (rows_coded e sound codes word each) kept few codes_are rows_are)

pub returns-clause-values : goal.returns-clause-values
returns-clause-values c =
    let s = c.self.inside in
    let e = s.encoding in
    let n = c.args.n in
    let words = c.args.words.now in
    let word = c.args.present in
    let old = list_of s.codes in
    let codes = made n (code_by (width e) words) in
    let long : length codes ≡ n = made_len n (code_by (width e) words) in
    let given : (k : ℕ) → k < n → IsRowCode e (code_by (width e) words k) (bit_of word k) = rw (← c.self.view_is) at c.requires.rows in
    let each : (k : ℕ) → k < length codes → IsRowCode e (get_or codes k 0) (bit_of word k) = word_codes e words word n given in
    let same : rows e codes word ≡ made n (λ k. value_from e (code_by (width e) words k) (bit_of word k)) = word_rows e words word n in
    let sound = c.self.invariant.sound in
    let held : All (IsNullOrHeld (layout_of s.codes)) (made n (λ k. value_from e (code_by (width e) words k) (bit_of word k))) = rw (← c.self.view_is) at c.requires.held in
    let kept : All (IsNullOrHeld (layout_of s.codes)) (rows e codes word) = rw same held in
    let many : length c.args.self.now.values ≡ count old = ap (λ (v : ColumnView). length v.values) (sym c.self.view_is) ∙ made_len (count old) (λ i. value_from e (code_at old i) (row_at s.nonnull i)) in
    let few : count old + length (rows e codes word) ≤ 2 ^ 24 = omega (arith, c.requires.few, many, long, made_len (length codes) (λ k. value_from e (get_or codes k 0) (bit_of word k))) in
    let codes_are = c.extend_words.ensures.codes ∙ ap (λ k. old.codes ++ made n (code_by k words)) c.self.invariant.width ∙ ap (λ xs. old.codes ++ xs) (rows_codes e sound codes word each) in
    let rows_are = c.push_bits.ensures.rows ∙ ap (λ k. s.nonnull.rows ++ made k (bit_of word)) (sym long) ∙ ap (λ xs. s.nonnull.rows ++ xs) (rows_present e sound codes word each) in
    rw (← c.self.view_is, ← same)
    (values_extended e old (list_of c.extend_words.new.self) s.nonnull c.push_bits.new.self c.self.invariant c.extend_words.ensures.shape.width (rows e codes word) (rows_coded e sound codes word each) kept few codes_are rows_are)
