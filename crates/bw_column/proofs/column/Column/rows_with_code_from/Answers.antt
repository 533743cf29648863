use Rattle.std.proofs.Common.{ap, arith, false, get_or, length, refl, replicate, subst, suc, sym, zero, ℕ, ◌<◌, ◌^◌, ◌≡◌, ◌∙◌}
use Rattle.std.specs.List.{All}
use Rattle.std.proofs.lemmas.List.{length-replicate}
use Rattle.bw_mask.specs.Masks.{row_at}
use Rattle.bw_code.specs.Columns.{code_at, count}
use Rattle.bw_code.specs.Encodings.{IsEncoding, width}
use Rattle.bw_code.specs.declared.encoding.Encoding.TheVariants as by
use Rattle.bw_code.proofs.Lists.{made_len}
use Rattle.bw_column.specs.Codes.{IsCoded, value_from, values_from}
use Rattle.bw_column.specs.Columns.{ColumnView}
use Rattle.bw_column.specs.Storing.{list_of}
use Rattle.bw_column.proofs.Chosen.{code_any}
use Rattle.bw_column.proofs.Raised.{none_above, place_fits}
use Rattle.bw_column.proofs.Rows.{known_rows}
use Rattle.bw_column.proofs.Scans.{all_codes}
use Rattle.bw_column.proofs.column.Column.rows_with_code_from.Goals as goal

none : (n m : ℕ) → get_or (replicate n false) m false ≡ false
none zero m = refl
none (suc n) zero = refl
none (suc n) (suc m) = none n m

pub scan-requires-clause-test : goal.scan-requires-clause-test
scan-requires-clause-test c =
    let entries = c.entries.result.now in
    let is : c.self.inside.encoding ≡ by.Dictionary entries = ap (λ (v : ColumnView). v.encoding) c.self.view_is ∙ c.entries.ensures.is in
    let sound : IsEncoding (by.Dictionary entries) = rw c.entries.ensures.is at c.encoding-sound.ensures.sound in
    let wide : (list_of c.self.inside.codes).width ≡ width (by.Dictionary entries) = c.self.invariant.width ∙ ap width is in
    subst (λ (k : ℕ). c.args.place < 2 ^ k) (sym wide) (place_fits entries sound c.args.place (omega arith))

pub scan-requires-clause-out : goal.scan-requires-clause-out
scan-requires-clause-out c =
    let s = c.self.inside in
    let many : length c.args.self.now.values ≡ count (list_of s.codes) = ap (λ (v : ColumnView). length v.values) (sym c.self.view_is) ∙ made_len (count (list_of s.codes)) (λ i. value_from s.encoding (code_at (list_of s.codes) i) (row_at s.nonnull i)) in
    ap length c.in_ok-rows.ensures ∙ length-replicate c.len.result false ∙ c.len.ensures.count ∙ many

pub returns-clause-rows : goal.returns-clause-rows
returns-clause-rows c i =
    let s = c.self.inside in
    let codes = list_of s.codes in
    let values = values_from s.encoding codes s.nonnull in
    rw (← c.self.view_is) (c.scan.ensures.rows i
    ∙ rw (known_rows s.encoding codes s.nonnull c.self.invariant i, ap (λ xs. get_or xs i 0) (all_codes s.encoding codes s.nonnull c.self.invariant) ∙ code_any s.encoding values i) refl)

pub returns-then-entries-place-clause-rows : goal.returns-then-entries-place-clause-rows
returns-then-entries-place-clause-rows c i =
    let entries = c.entries.result.now in
    let sound : IsEncoding (by.Dictionary entries) = rw c.entries.ensures.is at c.encoding-sound.ensures.sound in
    let coded : All (IsCoded (by.Dictionary entries)) c.args.self.now.values = rw c.entries.ensures.is at c.encoding-sound.ensures.coded in
    ap (λ xs. get_or xs i false) c.in_ok-rows.ensures ∙ none c.len.result i ∙ sym (rw c.entries.ensures.is (none_above entries sound c.args.place c.args.self.now.values coded (omega arith) i))
