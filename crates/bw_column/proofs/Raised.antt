-- Codes that rise where one entry came before them, by their planes.
use Rattle.std.proofs.Common.{List, None, Option, Some, ap, arith, drop, false, get_or, if◌then◌else◌, inl, inr, is_some, length, length-drop, length-take, nat_lt, pos, pow_pos, refl, sym, take, true, ℕ, ℤ, ◌&&◌, ◌+◌, ◌<◌, ◌^◌, ◌≡◌, ◌≤◌, ◌∙◌, ◌⊎◌}
use Rattle.std.specs.List.{All}
use Rattle.std.specs.Prelude.{nat_le, unwrap_or}
use Rattle.std.proofs.lemmas.Bool.{cases_lt, le-ltb, lt-ltb}
use Rattle.std.proofs.lemmas.Bool.Decides.{nat_tests}
use Rattle.std.proofs.lemmas.List.{get_or_past}
use Rattle.bw_mask.specs.Masks.{bit_of}
use Rattle.bw_mask.proofs.Bits.{bit_of_zero}
use Rattle.bw_code.specs.Encodings.{IsEncoding, width}
use Rattle.bw_code.specs.Lists.{made}
use Rattle.bw_code.specs.declared.encoding.Encoding.{Encoding}
use Rattle.bw_code.specs.declared.encoding.Encoding.TheVariants as by
use Rattle.bw_code.proofs.Codes.{code_low}
use Rattle.bw_code.proofs.Codes.{coded as coded_by}
use Rattle.bw_code.proofs.Entries.{entry_at}
use Rattle.bw_code.proofs.Lists.{made_at, made_is, made_len, part_at}
use Rattle.bw_column.specs.Codes.{IsCoded, IsRowCode, code_for, value_from}
use Rattle.bw_column.specs.Moves.{IsMoved, IsRaised, raised_code}
use Rattle.bw_column.specs.Values.{IsNullOrStorable, value_at}
use Rattle.bw_column.proofs.Blocks.{row}
use Rattle.bw_column.proofs.Blocks.{rows as rows_of_codes}
use Rattle.bw_column.proofs.Changed.{code_fits}
use Rattle.bw_column.proofs.Lain.{number_of_words}
use Rattle.bw_column.proofs.Rows.{back}
use Rattle.bw_column.proofs.Standing.{entry_of}
use Rattle.bw_vertical.specs.Planes.{code_by}

-- rows whose codes words of planes have
module _ (e : Encoding) (words : List ℕ) (word n : ℕ) where
  abbrev codes_of_words : List ℕ
  codes_of_words = made n (code_by (width e) words)

  pub word_codes : ((k : ℕ) → k < n → IsRowCode e (code_by (width e) words k) (bit_of word k)) → (k : ℕ) → k < length codes_of_words → IsRowCode e (get_or codes_of_words k 0) (bit_of word k)
  word_codes given k h = let low : k < n = omega (arith, h, made_len n (code_by (width e) words)) in rw (made_at n (code_by (width e) words) k 0 low) (given k low)

  pub word_rows : rows_of_codes e codes_of_words word ≡ made n (λ k. value_from e (code_by (width e) words k) (bit_of word k))
  word_rows =
      let f : ℕ → Option ℤ = λ k. value_from e (code_by (width e) words k) (bit_of word k) in
      let long : length codes_of_words ≡ n = made_len n (code_by (width e) words) in
      made_is n f (rows_of_codes e codes_of_words word) None (made_len (length codes_of_words) (row e codes_of_words word) ∙ long) (λ i h.
      made_at (length codes_of_words) (row e codes_of_words word) i None (omega (arith, h, long)) ∙ ap (λ c. value_from e c (bit_of word i)) (made_at n (code_by (width e) words) i 0 h))

-- a table that moves each index so raises each code
pub all_raised : (own e : Encoding) (place : ℕ) (moves : List ℕ) (values : List (Option ℤ)) → ((m : ℕ) → m < length moves → get_or moves m 0 ≡ raised_code place m) → All (IsMoved own e moves) values → All (IsRaised own e place) values
all_raised own e place moves values each moved k d h = by (get_or values k d) (moved k d h)
  where
    by : (value : Option ℤ) → IsMoved own e moves value → IsRaised own e place value
    by None is = tt
    by (Some x) is = is.1 ∙ ap Some (each (code_for own (Some x)) is.0)

raised_up : (place code : ℕ) → code + (if nat_le place code then 1 else 0) ≡ raised_code place code
raised_up place code =
    elim (cases_lt code place) [
      | inl low ↦
          let not_yet : nat_le place code ≡ false = grind (arith, nat_tests, low) in
          rw (not_yet, lt-ltb code place low) (omega arith)
      | inr high ↦
          let now : nat_le place code ≡ true = grind (arith, nat_tests, high) in
          rw (now, le-ltb code place high) refl
    ]

module _ (own e : Encoding) (sound_own : IsEncoding own) (sound : IsEncoding e) (place : ℕ) where
  risen : (v : Option ℤ) → IsRaised own e place v → code_for own v + (if is_some v && nat_le place (code_for own v) then 1 else 0) ≡ code_for e v
  risen None is = refl
  risen (Some x) is = raised_up place (code_for own (Some x)) ∙ sym (ap (λ o. unwrap_or o 0) is)

  raised_coded : (v : Option ℤ) → IsRaised own e place v → IsCoded e v
  raised_coded None is = tt
  raised_coded (Some x) is = (coded_by e sound x).0 (ap is_some is)

  module _ (values : List (Option ℤ)) (coded : All (IsCoded own) values) (raised : All (IsRaised own e place) values) (storable : All IsNullOrStorable values) (at n : ℕ) (code_here : ℕ → ℕ) (old words : List ℕ) (rows present : ℕ)
      (inside : at + n ≤ length values) (few : n ≤ 64) (whole : (n ≡ 64) ⊎ (at + n ≡ length values))
      (codes_are : (i : ℕ) → code_here i ≡ code_for own (value_at values i))
      (read : (b r : ℕ) → b < width own → r < 64 → bit_of (get_or old b 0) r ≡ bit_of (code_here (at + r)) b)
      (shifted : (b r : ℕ) → b < width e → r < 64 → bit_of (get_or words b 0) r ≡ bit_of (code_by (width own) old r + (if bit_of rows r then 1 else 0)) b)
      (above : (i : ℕ) → bit_of rows i ≡ (nat_lt i n && (is_some (value_at values (at + i)) && nat_le place (code_for own (value_at values (at + i))))))
      (there : (i : ℕ) → bit_of present i ≡ is_some (get_or (take n (drop at values)) i None)) where
    abbrev here : List (Option ℤ)
    here = take n (drop at values)

    here_len : length here ≡ n
    here_len = omega (arith, length-take n (drop at values), length-drop at values, inside)

    here_at : (r : ℕ) → r < n → get_or here r None ≡ value_at values (at + r)
    here_at r h = part_at values here at n r None refl (omega (arith, h, here_len))

    small : (i : ℕ) → code_for own (value_at values i) < 2 ^ width own
    small i =
        elim (cases_lt i (length values)) [
          | inl low ↦ code_fits own sound_own (value_at values i) (coded i None low)
          | inr past ↦ let none : value_at values i ≡ None = get_or_past values i None past in rw none (pow_pos (width own))
        ]

    old_number : (r : ℕ) → r < 64 → code_by (width own) old r ≡ code_for own (value_at values (at + r))
    old_number r h = number_of_words (width own) old r (code_for own (value_at values (at + r))) (small (at + r)) (λ b low. read b r low h ∙ ap (λ x. bit_of x b) (codes_are (at + r)))

    new_bit : (b r : ℕ) → b < width e → r < n → bit_of (get_or words b 0) r ≡ bit_of (code_for e (value_at values (at + r))) b
    new_bit b r low h =
        let v = value_at values (at + r) in
        let set : bit_of rows r ≡ (is_some v && nat_le place (code_for own v)) = above r ∙ rw (lt-ltb r n h) refl in
        shifted b r low (omega (arith, h, few))
        ∙ ap (λ x. bit_of x b) (rw (old_number r (omega (arith, h, few)), set) (risen v (raised (at + r) None (omega (arith, h, inside)))))

    new_number : (r : ℕ) → r < n → code_by (width e) words r ≡ code_for e (value_at values (at + r))
    new_number r h =
        let v = value_at values (at + r) in
        let low : at + r < length values = omega (arith, h, inside) in
        number_of_words (width e) words r (code_for e v) (code_fits e sound v (raised_coded v (raised (at + r) None low))) (λ b bound. new_bit b r bound h)

    pub raised_rest : (b r : ℕ) → b < width e → n ≤ r → r < 64 → bit_of (get_or words b 0) r ≡ false
    raised_rest b r low past h =
        let unset : bit_of rows r ≡ false = above r ∙ rw (le-ltb r n past) refl in
        let none : value_at values (at + r) ≡ None = get_or_past values (at + r) None (gone whole) in
        shifted b r low h ∙ ap (λ x. bit_of x b) (rw (unset, old_number r h, none) refl) ∙ bit_of_zero b
      where
        gone : (n ≡ 64) ⊎ (at + n ≡ length values) → length values ≤ at + r
        gone (inl full) = absurd (omega (arith, full, past, h))
        gone (inr last) = omega (arith, last, past)

    back_at : (r : ℕ) → r < n → (value_from e (code_by (width e) words r) (bit_of present r) ≡ get_or here r None) × IsRowCode e (code_by (width e) words r) (bit_of present r)
    back_at r h =
        let low : at + r < length values = omega (arith, h, inside) in
        let v = value_at values (at + r) in
        let is = back e sound v (raised_coded v (raised (at + r) None low)) (storable (at + r) None low) in
        let set : bit_of present r ≡ is_some v = there r ∙ ap is_some (here_at r h) in
        rw (new_number r h, set, here_at r h) (is.0, is.1)

    pub raised_rows : (r : ℕ) → r < n → IsRowCode e (code_by (width e) words r) (bit_of present r)
    raised_rows r h = (back_at r h).1

    pub raised_values : made n (λ r. value_from e (code_by (width e) words r) (bit_of present r)) ≡ here
    raised_values = sym (made_is n (λ r. value_from e (code_by (width e) words r) (bit_of present r)) here None here_len (λ r h. sym (back_at r h).0))

-- which rows have an entry from a place on
module _ (entries : List ℤ) (sound : IsEncoding (by.Dictionary entries)) (place : ℕ) where
  pub place_fits : place < length entries → place < 2 ^ width (by.Dictionary entries)
  place_fits h = code_low (by.Dictionary entries) sound (get_or entries place (pos 0)) place (entry_at entries (get_or entries place (pos 0)) place sound.ascending h refl)

  pub none_above : (values : List (Option ℤ)) → All (IsCoded (by.Dictionary entries)) values → length entries ≤ place → (i : ℕ) → (is_some (value_at values i) && nat_le place (code_for (by.Dictionary entries) (value_at values i))) ≡ false
  none_above values coded past i = by_value (value_at values i) refl
    where
      by_value : (v : Option ℤ) → value_at values i ≡ v → (is_some v && nat_le place (code_for (by.Dictionary entries) v)) ≡ false
      by_value None is = refl
      by_value (Some x) is =
          elim (cases_lt i (length values)) [
            | inl low ↦
                let it = (entry_of entries sound values coded i x low is).0 in
                grind (arith, nat_tests, it, past)
            | inr high ↦ let none = sym is ∙ get_or_past values i None high in absurd cc
          ]
