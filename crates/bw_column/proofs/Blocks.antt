-- Rows given by their codes and by a word that says which are not null.
use Rattle.std.proofs.Common.{List, None, Option, ap, arith, false, get_or, is_some, length, map, refl, sym, ℕ, ℤ, ◌<◌, ◌≡◌, ◌∙◌}
use Rattle.std.specs.List.{All}
use Rattle.std.proofs.lemmas.List.{get_or-map, length-map}
use Rattle.bw_mask.specs.Masks.{bit_of, rows_of}
use Rattle.bw_code.specs.Columns.{Fit}
use Rattle.bw_code.specs.Encodings.{IsEncoding, width}
use Rattle.bw_code.specs.Lists.{made}
use Rattle.bw_code.specs.declared.encoding.Encoding.{Encoding}
use Rattle.bw_code.proofs.Lists.{made_at, made_is, made_len}
use Rattle.bw_column.specs.Codes.{IsCoded, IsRowCode, code_for, codes_for, value_from}
use Rattle.bw_column.specs.Values.{IsNullOrStorable}
use Rattle.bw_column.proofs.Changed.{codes_fit}
use Rattle.bw_column.proofs.Rows.{back, code_again, has_code, there}

-- the values of such rows
abbrev pub row : Encoding → List ℕ → ℕ → ℕ → Option ℤ
row e codes word k = value_from e (get_or codes k 0) (bit_of word k)

abbrev pub rows : Encoding → List ℕ → ℕ → List (Option ℤ)
rows e codes word = made (length codes) (row e codes word)

module _ (e : Encoding) (sound : IsEncoding e) (codes : List ℕ) (word : ℕ) (each : (k : ℕ) → k < length codes → IsRowCode e (get_or codes k 0) (bit_of word k)) where
  pub rows_coded : All (IsCoded e) (rows e codes word)
  rows_coded k d h =
      let low : k < length codes = omega (arith, made_len (length codes) (row e codes word)) in
      rw (made_at (length codes) (row e codes word) k d low) (has_code e sound (get_or codes k 0) (bit_of word k) (each k low))

  pub rows_codes : codes ≡ codes_for e (rows e codes word)
  rows_codes =
      made_is (length codes) (λ k. get_or codes k 0) codes 0 refl (λ i h. refl)
      ∙ sym (made_is (length codes) (λ k. get_or codes k 0) (codes_for e (rows e codes word)) 0 (length-map (rows e codes word) (code_for e) ∙ made_len (length codes) (row e codes word)) (λ i h.
      get_or-map (code_for e) (rows e codes word) i None 0 (omega (arith, h, made_len (length codes) (row e codes word)))
      ∙ ap (code_for e) (made_at (length codes) (row e codes word) i None h) ∙ sym (code_again e (get_or codes i 0) (bit_of word i) (each i h))))

  pub rows_present : rows_of (length codes) (bit_of word) ≡ map is_some (rows e codes word)
  rows_present =
      sym (made_is (length codes) (bit_of word) (map is_some (rows e codes word)) false (length-map (rows e codes word) is_some ∙ made_len (length codes) (row e codes word)) (λ i h.
      get_or-map is_some (rows e codes word) i None false (omega (arith, h, made_len (length codes) (row e codes word)))
      ∙ ap is_some (made_at (length codes) (row e codes word) i None h) ∙ sym (there e (get_or codes i 0) (bit_of word i))))

  pub rows_fit : Fit (width e) codes
  rows_fit = rw rows_codes (codes_fit e sound (rows e codes word) rows_coded)

-- rows of values by their own codes
module _ (e : Encoding) (sound : IsEncoding e) (values : List (Option ℤ)) (codes : List ℕ) (word : ℕ) (held : All (IsCoded e) values) (ints : All IsNullOrStorable values) (are : codes ≡ codes_for e values) (present : (i : ℕ) → bit_of word i ≡ is_some (get_or values i None)) where
  many : length codes ≡ length values
  many = ap length are ∙ length-map values (code_for e)

  code_here : (k : ℕ) → k < length values → get_or codes k 0 ≡ code_for e (get_or values k None)
  code_here k h = ap (λ xs. get_or xs k 0) are ∙ get_or-map (code_for e) values k None 0 h

  pub are_row_codes : (k : ℕ) → k < length codes → IsRowCode e (get_or codes k 0) (bit_of word k)
  are_row_codes k h =
      let low : k < length values = omega (arith, many) in
      rw (code_here k low, present k) (back e sound (get_or values k None) (held k None low) (ints k None low)).1

  pub rows_are_values : rows e codes word ≡ values
  rows_are_values =
      sym (made_is (length codes) (row e codes word) values None (sym many) (λ i h.
      let low : i < length values = omega (arith, many) in
      sym (rw (code_here i low, present i) (back e sound (get_or values i None) (held i None low) (ints i None low)).0)))
