-- Values that are null outside of a mask: what the values in its rows ask, they ask.
use Rattle.std.proofs.Common.{◌≡◌, ℕ, suc, zero, ℤ, ◌+◌, ◌<◌, ◌≤◌, ◌&&◌, Bool, true, false, is_some, length-drop, length-take, nat_lt, Option, None, Some, List, [], ◌∷◌, ◌++◌, drop, length, get_or, if◌then◌else◌, map, refl, sym, ap, subst, take, ◌∙◌, inl, inr, arith, add-one}
use Rattle.std.specs.List.{All}
use Rattle.std.proofs.lemmas.Bool.{cases_Bool, cases_lt, le-ltb, lt-ltb}
use Rattle.std.proofs.lemmas.List.{append-nil, drop_more, ext_get_or, get_or-map, get_or_default, get_or_past, length-map, map-append, take_all}
use Rattle.std.proofs.lemmas.List.Elements.{filter_map-append}
use Rattle.bw_mask.specs.Masks.{MaskRows, bit_of, len, row_at}
use Rattle.bw_cells.proofs.Known.{known_part}
use Rattle.bw_code.proofs.Lists.{made_at, made_is, made_len, part_at}
use Rattle.bw_code.specs.declared.encoding.Encoding.{Encoding}
use Rattle.bw_code.specs.Encodings.{IsEncoding}
use Rattle.bw_column.specs.Codes.{IsCoded, IsRowCode, code_for, codes_for}
use Rattle.bw_column.specs.Copies.{IsMasked, masked}
use Rattle.bw_column.specs.Places.{chosen_values, rank, set_below}
use Rattle.bw_column.specs.Preparing.{IsEncodingFor}
use Rattle.bw_column.specs.Values.{IsNullOrStorable, known, value_at}
use Rattle.bw_column.proofs.Blocks.{are_row_codes, rows_are_values}
use Rattle.bw_column.proofs.Blocks.{rows as rows_of_codes}
use Rattle.bw_column.proofs.Pieces.{all_here}
use Rattle.bw_column.proofs.Chosen.{code_any}
use Rattle.bw_column.proofs.Ordered.{all_chosen, chosen_at, place_at, place_in, place_out}

pub masked_len : (places : MaskRows) (values : List (Option ℤ)) → length (masked places values) ≡ length values
masked_len places values = made_len (length values) (λ i. if row_at places i then value_at values i else None)

pub masked_is : (places : MaskRows) (values : List (Option ℤ)) → length values ≡ len places → IsMasked places (masked places values)
masked_is places values long =
    let f : ℕ → Option ℤ = λ i. if row_at places i then value_at values i else None in
    record {
      long = made_len (length values) f ∙ long;
      null = λ i out.
          elim (cases_lt i (length values)) [
            | inl h ↦ made_at (length values) f i None h ∙ rw out refl
            | inr h ↦ get_or_past (masked places values) i None (omega (arith, h, made_len (length values) f))
          ];
    }

-- a value where it is known, and none where it isn't
only_known : (x : Option ℤ) (there : Bool) → there ≡ is_some x → x ≡ (if there then x else None)
only_known None there e = rw e refl
only_known (Some x) there e = rw e refl

-- values are the same where those of the unknown rows are left out
pub masked_known : (places : MaskRows) (values : List (Option ℤ)) → ((i : ℕ) → row_at places i ≡ is_some (value_at values i)) → masked places values ≡ values
masked_known places values are =
    sym (made_is (length values) (λ i. if row_at places i then value_at values i else None) values None refl (λ i h. only_known (value_at values i) (row_at places i) (are i)))

-- a bit beside one that is set, or not
pub and-true-r : (b : Bool) → (b && true) ≡ b
and-true-r true = refl
and-true-r false = refl

pub and-false-r : (b : Bool) → (b && false) ≡ false
and-false-r true = refl
and-false-r false = refl

module _ (places : MaskRows) (values : List (Option ℤ)) (is : IsMasked places values) where
  pub all_of_chosen : (P : Option ℤ → Type 0) → P None → All P (chosen_values places values) → All P values
  all_of_chosen P none all k d h =
      let inside : k < len places = omega (arith, h, is.long) in
      elim (cases_Bool (row_at places k)) [
        | inl t ↦
            let there = place_at places (len places) k inside (omega arith) t in
            rw (get_or_default values k d None h, ← chosen_at places values k t) (all (rank places k) None (omega (arith, there.0, length-map (set_below places (len places)) (value_at values))))
        | inr t ↦ rw (get_or_default values k d None h, is.null k t) none
      ]

  one_more : (n : ℕ) → n < length values → known (take (n + 1) values) ≡ known (take n values) ++ known (value_at values n ∷ [])
  one_more n h =
      let here : take 1 (drop n values) ≡ value_at values n ∷ [] = ap (take 1) (drop_more values n None h) in
      known_part values n 1 ∙ ap (λ xs. known (take n values) ++ known xs) here

  below : (n : ℕ) → n ≤ len places → known (map (value_at values) (set_below places n)) ≡ known (take n values)
  below zero h = refl
  below (suc n) h =
      let inside : n < length values = omega (arith, is.long, h) in
      let before = below n (omega (arith, h)) in
      let step : known (map (value_at values) (set_below places (n + 1))) ≡ known (take (n + 1) values) =
      elim (cases_Bool (row_at places n)) [
        | inl t ↦
            ap (λ ps. known (map (value_at values) ps)) (place_in places n t)
            ∙ ap known (map-append (value_at values) (set_below places n) (n ∷ []))
            ∙ filter_map-append (λ cell. cell) (map (value_at values) (set_below places n)) (value_at values n ∷ [])
            ∙ ap (λ xs. xs ++ known (value_at values n ∷ [])) before
            ∙ sym (one_more n inside)
        | inr t ↦
            let none : known (value_at values n ∷ []) ≡ [] = rw (is.null n t) refl in
            ap (λ ps. known (map (value_at values) ps)) (place_out places n t)
            ∙ before
            ∙ sym (append-nil (known (take n values)))
            ∙ ap (λ xs. known (take n values) ++ xs) (sym none)
            ∙ sym (one_more n inside)
      ] in
      subst (λ (m : ℕ). known (map (value_at values) (set_below places m)) ≡ known (take m values)) (add-one n) step

  pub known_chosen : known (chosen_values places values) ≡ known values
  known_chosen = below (len places) (omega arith) ∙ ap known (take_all (len places) values (omega (arith, is.long)))

  -- an encoding for the values is one for those in the mask's rows
  module _ (old : List (Option ℤ)) (own e : Encoding) (for : IsEncodingFor old own values e) where
    same_known : known (old ++ values) ≡ known (old ++ chosen_values places values)
    same_known =
        filter_map-append (λ cell. cell) old values ∙ ap (λ xs. known old ++ xs) (sym known_chosen) ∙ sym (filter_map-append (λ cell. cell) old (chosen_values places values))

    pub for_chosen : IsEncodingFor old own (chosen_values places values) e
    for_chosen = record {
      stays = λ all. for.stays (all_of_chosen (IsCoded own) tt all);
      anew = λ none. rw (← same_known) (for.anew (λ all. none (all_chosen (IsCoded own) places values tt all)));
    }

pub all_masked : (P : Option ℤ → Type 0) (places : MaskRows) (values : List (Option ℤ)) → P None → All P values → All P (masked places values)
all_masked P places values none all k d h =
    let f : ℕ → Option ℤ = λ i. if row_at places i then value_at values i else None in
    let inside : k < length values = omega (arith, h, made_len (length values) f) in
    rw (made_at (length values) f k d inside) (elim (cases_Bool (row_at places k)) [ inl t ↦ rw t (all k None inside) | inr t ↦ rw t none ])

-- the code of a value, and 0 where it is not there, which is the code of a null
kept_code : (e : Encoding) (v : Option ℤ) → (if is_some v then code_for e v else 0) ≡ code_for e v
kept_code e None = refl
kept_code e (Some x) = refl

-- a run of a copy: the codes of those of the values that are in the mask's rows
module _ (e : Encoding) (sound : IsEncoding e) (places : MaskRows) (values : List (Option ℤ)) (at n present rows kept : ℕ) (all_codes codes : List ℕ) (inside : at + n ≤ length values)
    (coded : All (IsCoded e) values) (storable : All IsNullOrStorable values)
    (are : all_codes ≡ take n (drop at (codes_for e values)))
    (there : (i : ℕ) → bit_of present i ≡ is_some (get_or (take n (drop at values)) i None))
    (bits : (i : ℕ) → bit_of rows i ≡ (nat_lt i n && row_at places (at + i)))
    (both : (k : ℕ) → bit_of kept k ≡ (bit_of present k && bit_of rows k))
    (long : length codes ≡ length all_codes)
    (each : (k : ℕ) → k < length all_codes → get_or codes k 0 ≡ (if bit_of kept k then get_or all_codes k 0 else 0)) where
  abbrev own : List (Option ℤ)
  own = take n (drop at values)

  abbrev pub run : List (Option ℤ)
  run = take n (drop at (masked places values))

  abbrev chosen : ℕ → Option ℤ
  chosen i = if row_at places i then value_at values i else None

  own_len : length own ≡ n
  own_len = omega (arith, length-take n (drop at values), length-drop at values, inside)

  run_len : length run ≡ n
  run_len = omega (arith, length-take n (drop at (masked places values)), length-drop at (masked places values), made_len (length values) chosen, inside)

  own_at : (k : ℕ) → k < n → get_or own k None ≡ value_at values (at + k)
  own_at k h = part_at values own at n k None refl (omega (arith, h, own_len))

  run_at : (k : ℕ) → k < n → get_or run k None ≡ chosen (at + k)
  run_at k h = part_at (masked places values) run at n k None refl (omega (arith, h, run_len)) ∙ made_at (length values) chosen (at + k) None (omega (arith, h, inside))

  here : (k : ℕ) → k < n → bit_of kept k ≡ (is_some (value_at values (at + k)) && row_at places (at + k))
  here k h = both k ∙ rw (there k, own_at k h, bits k, lt-ltb k n h) refl

  many : length all_codes ≡ n
  many = ap length are ∙ omega (arith, length-take n (drop at (codes_for e values)), length-drop at (codes_for e values), inside, length-map values (code_for e))

  code_here : (k : ℕ) → k < n → get_or all_codes k 0 ≡ code_for e (value_at values (at + k))
  code_here k h = part_at (codes_for e values) all_codes at n k 0 are (omega (arith, h, many)) ∙ get_or-map (code_for e) values (at + k) None 0 (omega (arith, h, inside))

  code_at_run : (k : ℕ) → k < n → get_or codes k 0 ≡ code_for e (get_or run k None)
  code_at_run k h =
      let v = value_at values (at + k) in
      each k (omega (arith, h, many))
      ∙ elim (cases_Bool (row_at places (at + k))) [
        | inl t ↦
            let bit : bit_of kept k ≡ is_some v = here k h ∙ rw t (and-true-r (is_some v)) in
            rw (bit, code_here k h, run_at k h, t) (kept_code e v)
        | inr t ↦
            let bit : bit_of kept k ≡ false = here k h ∙ rw t (and-false-r (is_some v)) in
            rw (bit, run_at k h, t) refl
      ]

  pub run_codes : codes ≡ codes_for e run
  run_codes =
      ext_get_or 0 codes (codes_for e run) (long ∙ many ∙ sym (length-map run (code_for e) ∙ run_len)) (λ k h.
      code_at_run k (omega (arith, h, long, many)) ∙ sym (code_any e run k))

  pub run_present : (k : ℕ) → bit_of kept k ≡ is_some (get_or run k None)
  run_present k =
      elim (cases_lt k n) [
        | inl h ↦
            elim (cases_Bool (row_at places (at + k))) [
              | inl t ↦ here k h ∙ rw (t, run_at k h, t) (and-true-r (is_some (value_at values (at + k))))
              | inr t ↦ here k h ∙ rw (t, run_at k h, t) (and-false-r (is_some (value_at values (at + k))))
            ]
        | inr h ↦
            let none : get_or run k None ≡ None = get_or_past run k None (omega (arith, h, run_len)) in
            rw none (both k ∙ rw (bits k, le-ltb k n h) (and-false-r (bit_of present k)))
      ]

  pub masked_rows : ((k : ℕ) → k < length codes → IsRowCode e (get_or codes k 0) (bit_of kept k)) × (rows_of_codes e codes kept ≡ run)
  masked_rows =
      let held : All (IsCoded e) run = all_here (IsCoded e) (masked places values) at n (all_masked (IsCoded e) places values tt coded) in
      let ints : All IsNullOrStorable run = all_here IsNullOrStorable (masked places values) at n (all_masked IsNullOrStorable places values tt storable) in
      (are_row_codes e sound run codes kept held ints run_codes run_present, rows_are_values e sound run codes kept held ints run_codes run_present)
