-- Which codes the rows of a column have, and where these move.
use Rattle.std.proofs.Common.{Bool, List, None, Option, Some, ap, arith, drop, get_or, if◌then◌else◌, inl, inr, is_some, length, length-drop, length-take, pos, refl, sym, take, true, ℕ, ℤ, ◌+◌, ◌-◌, ◌<◌, ◌≡◌, ◌≤◌, ◌∙◌, ◌⊎◌}
use Rattle.std.specs.List.{All}
use Rattle.std.specs.Prelude.{Contains, unwrap_or, ◌↔◌}
use Rattle.std.proofs.lemmas.Bool.{cases_lt}
use Rattle.std.proofs.lemmas.List.{get_or-map, get_or_default, length-map}
use Rattle.bw_mask.specs.Masks.{bit_of}
use Rattle.bw_cells.proofs.Known.{known_at}
use Rattle.bw_code.specs.Encodings.{IsEncoding}
use Rattle.bw_code.specs.declared.encoding.Encoding.{Encoding}
use Rattle.bw_code.specs.declared.encoding.Encoding.TheVariants as by
use Rattle.bw_code.proofs.Codes.{coded as coded_by}
use Rattle.bw_code.proofs.Entries.{entry_is}
use Rattle.bw_code.proofs.Lists.{made_is, part_at}
use Rattle.bw_dictionary.specs.Merging.{StandsAt, StandsIn}
use Rattle.bw_dictionary.specs.Moving.{IsCodeOf}
use Rattle.bw_dictionary.proofs.Encoded.{cell_of}
use Rattle.bw_column.specs.Codes.{IsCoded, IsRowCode, code_for, codes_for}
use Rattle.bw_column.specs.Moves.{IsMoved}
use Rattle.bw_column.specs.Values.{IsNullOrStorable, known}
use Rattle.bw_column.proofs.Blocks.{are_row_codes, rows, rows_are_values}
use Rattle.bw_column.proofs.Rows.{code_is}

-- a value from the n-th on has this code
abbrev pub HasCodeFrom : Encoding → List (Option ℤ) → ℕ → ℕ → Type 0
HasCodeFrom e values n m = (r : ℕ) × (r < length values) × (is_some (get_or values r None) ≡ true) × (code_for e (get_or values r None) ≡ m) × (n ≤ r)

module _ (e : Encoding) (sound : IsEncoding e) (values : List (Option ℤ)) (coded : All (IsCoded e) values) where
  -- a run of codes, with a word that says which values there are not null
  module _ (at n : ℕ) (run : List ℕ) (present : ℕ) (inside : at + n ≤ length values) (part : run ≡ take n (drop at (codes_for e values)))
      (bits : (i : ℕ) → bit_of present i ≡ is_some (get_or (take n (drop at values)) i None)) where
    abbrev here : List (Option ℤ)
    here = take n (drop at values)

    many_here : length here ≡ n
    many_here = omega (arith, length-take n (drop at values), length-drop at values, inside)

    pub many : length run ≡ n
    many = ap length part ∙ omega (arith, length-take n (drop at (codes_for e values)), length-drop at (codes_for e values), inside, length-map values (code_for e))

    value_here : (k : ℕ) → k < n → get_or here k None ≡ get_or values (at + k) None
    value_here k h = part_at values here at n k None refl (omega (arith, h, many_here))

    code_here : (k : ℕ) → k < n → get_or run k 0 ≡ code_for e (get_or values (at + k) None)
    code_here k h = part_at (codes_for e values) run at n k 0 part (omega (arith, h, many)) ∙ get_or-map (code_for e) values (at + k) None 0 (omega (arith, h, inside))

    set_here : (k : ℕ) → k < n → bit_of present k ≡ is_some (get_or values (at + k) None)
    set_here k h = bits k ∙ ap is_some (value_here k h)

    pub marked_more : (till : ℕ) → at + n ≡ till → (m : ℕ) → (HasCodeFrom e values at m ↔ (HasCodeFrom e values till m ⊎ IsCodeOf run present (length run) m))
    marked_more till up m = (forth, back)
      where
        forth : HasCodeFrom e values at m → HasCodeFrom e values till m ⊎ IsCodeOf run present (length run) m
        forth h = elim (cases_lt h.0 till) [
          | inl before ↦
              let k = h.0 - at in
              let is : at + k ≡ h.0 = omega (arith, h.4) in
              let low : k < n = omega (arith, before, h.4, up) in
              inr (k, omega (arith, low, many), set_here k low ∙ ap (λ r. is_some (get_or values r None)) is ∙ h.2, code_here k low ∙ ap (λ r. code_for e (get_or values r None)) is ∙ h.3)
          | inr upto ↦ inl (h.0, h.1, h.2, h.3, upto)
        ]

        back : HasCodeFrom e values till m ⊎ IsCodeOf run present (length run) m → HasCodeFrom e values at m
        back h = elim h [
          | inl was ↦ (was.0, was.1, was.2, was.3, omega (arith, was.4, up))
          | inr was ↦
              let low : was.0 < n = omega (arith, was.1, many) in
              (at + was.0, omega (arith, low, inside), sym (set_here was.0 low) ∙ was.2, sym (code_here was.0 low) ∙ was.3, omega arith)
        ]

    -- by a table that has the new code of each value in the place of the old one
    module _ (other : Encoding) (moves : List ℕ) (moved : All (IsMoved e other moves) values) where
      moved_at : (k : ℕ) (x : ℤ) → k < n → get_or values (at + k) None ≡ Some x → IsMoved e other moves (Some x)
      moved_at k x h is = rw is at (moved (at + k) None (omega (arith, h, inside)))

      pub moves_inside : (k : ℕ) → k < length run → bit_of present k ≡ true → get_or run k 0 < length moves
      moves_inside k h set = by (get_or values (at + k) None) refl
        where
          low : k < n
          low = omega (arith, h, many)

          by : (value : Option ℤ) → get_or values (at + k) None ≡ value → get_or run k 0 < length moves
          by (Some x) is = let it = (moved_at k x low is).0 in let code = code_here k low ∙ ap (code_for e) is in omega (arith, it, code)
          by None is = let none = sym set ∙ set_here k low ∙ ap is_some is in absurd cc

      pub values_coded : IsEncoding other → All (IsCoded other) here
      values_coded sound_other k d h = by (get_or values (at + k) None) refl
        where
          low : k < n
          low = omega (arith, h, many_here)

          by : (value : Option ℤ) → get_or values (at + k) None ≡ value → IsCoded other (get_or here k d)
          by (Some x) is =
              let there = (coded_by other sound_other x).0 (ap is_some (moved_at k x low is).1) in
              let same : get_or here k d ≡ Some x = get_or_default here k d None h ∙ value_here k low ∙ is in
              rw same there
          by None is =
              let same : get_or here k d ≡ None = get_or_default here k d None h ∙ value_here k low ∙ is in
              rw same tt

      pub codes_moved : (new : List ℕ) → length new ≡ length run → ((k : ℕ) → k < length run → get_or new k 0 ≡ (if bit_of present k then get_or moves (get_or run k 0) 0 else 0)) → new ≡ codes_for other here
      codes_moved new long each =
          let f = λ (k : ℕ). code_for other (get_or here k None) in
          made_is n f new 0 (long ∙ many) is ∙ sym (made_is n f (codes_for other here) 0 (length-map here (code_for other) ∙ many_here) (λ k h. get_or-map (code_for other) here k None 0 (omega (arith, h, many_here))))
        where
          is : (k : ℕ) → k < n → get_or new k 0 ≡ code_for other (get_or here k None)
          is k h = each k (omega (arith, h, many)) ∙ by (get_or values (at + k) None) refl ∙ ap (code_for other) (sym (value_here k h))
            where
              by : (value : Option ℤ) → get_or values (at + k) None ≡ value → (if bit_of present k then get_or moves (get_or run k 0) 0 else 0) ≡ code_for other (get_or values (at + k) None)
              by (Some x) e_is =
                  let there = (moved_at k x h e_is).1 in
                  rw (set_here k h ∙ ap is_some e_is, e_is) (ap (λ c. get_or moves c 0) (code_here k h ∙ ap (code_for e) e_is) ∙ sym (ap (λ o. unwrap_or o 0) there))
              by None e_is = rw (set_here k h ∙ ap is_some e_is, e_is) refl

      -- the rows that are written by such codes
      pub moved_rows : IsEncoding other → All IsNullOrStorable here → (new : List ℕ) → length new ≡ length run → ((k : ℕ) → k < length run → get_or new k 0 ≡ (if bit_of present k then get_or moves (get_or run k 0) 0 else 0))
          → (length new ≡ n) × ((k : ℕ) → k < length new → IsRowCode other (get_or new k 0) (bit_of present k)) × (rows other new present ≡ here)
      moved_rows sound_other storable new long each =
          let codes = codes_moved new long each in
          let held = values_coded sound_other in
          (long ∙ many, are_row_codes other sound_other here new present held storable codes bits, rows_are_values other sound_other here new present held storable codes bits)

-- the code of a value that is not null is the place of an entry
module _ (entries : List ℤ) (sound : IsEncoding (by.Dictionary entries)) (values : List (Option ℤ)) (coded : All (IsCoded (by.Dictionary entries)) values) where
  pub entry_of : (r : ℕ) (x : ℤ) → r < length values → get_or values r None ≡ Some x → (code_for (by.Dictionary entries) (Some x) < length entries) × (get_or entries (code_for (by.Dictionary entries) (Some x)) (pos 0) ≡ x)
  entry_of r x h is =
      let here : IsCoded (by.Dictionary entries) (Some x) = rw is at (coded r None h) in
      let it = entry_is entries x (code_for (by.Dictionary entries) (Some x)) sound.ascending (code_is (by.Dictionary entries) sound x here) in
      (it.within, it.here)

  pub run_inside : (at n : ℕ) (run : List ℕ) (present : ℕ) → at + n ≤ length values → run ≡ take n (drop at (codes_for (by.Dictionary entries) values))
      → ((i : ℕ) → bit_of present i ≡ is_some (get_or (take n (drop at values)) i None)) → (k : ℕ) → k < length run → bit_of present k ≡ true → get_or run k 0 < length entries
  run_inside at n run present inside part bits k h set = by_value (get_or values (at + k) None) refl
    where
      low : k < n
      low = omega (arith, h, many (by.Dictionary entries) sound values coded at n run present inside part bits)

      by_value : (value : Option ℤ) → get_or values (at + k) None ≡ value → get_or run k 0 < length entries
      by_value (Some x) is =
          let it = (entry_of (at + k) x (omega (arith, low, inside)) is).0 in
          let code = code_here (by.Dictionary entries) sound values coded at n run present inside part bits k low ∙ ap (code_for (by.Dictionary entries)) is in
          omega (arith, it, code)
      by_value None is = let none = sym set ∙ set_here (by.Dictionary entries) sound values coded at n run present inside part bits k low ∙ ap is_some is in absurd cc

  -- where all entries are marked by the last rows, they are marked by all
  pub marked_all : (stands : List Bool) (at : ℕ) → ((m : ℕ) → (StandsAt stands m ↔ HasCodeFrom (by.Dictionary entries) values at m)) → ((m : ℕ) → m < length entries → StandsAt stands m)
      → (m : ℕ) → (StandsAt stands m ↔ HasCodeFrom (by.Dictionary entries) values 0 m)
  marked_all stands at marks all m = (forth, back)
    where
      forth : StandsAt stands m → HasCodeFrom (by.Dictionary entries) values 0 m
      forth h = let was = (marks m).0 h in (was.0, was.1, was.2, was.3, omega arith)

      back : HasCodeFrom (by.Dictionary entries) values 0 m → StandsAt stands m
      back h = by_value (get_or values h.0 None) refl
        where
          by_value : (value : Option ℤ) → get_or values h.0 None ≡ value → StandsAt stands m
          by_value (Some x) is =
              let it = (entry_of h.0 x h.1 is).0 in
              let code : code_for (by.Dictionary entries) (Some x) ≡ m = ap (code_for (by.Dictionary entries)) (sym is) ∙ h.3 in
              all m (omega (arith, it, code))
          by_value None is = let none = sym h.2 ∙ ap is_some is in absurd cc

-- the entries of a dictionary that some row has are the values that are not null
module _ (entries : List ℤ) (sound : IsEncoding (by.Dictionary entries)) (values : List (Option ℤ)) (coded : All (IsCoded (by.Dictionary entries)) values) (stands : List Bool)
    (marks : (m : ℕ) → (StandsAt stands m ↔ HasCodeFrom (by.Dictionary entries) values 0 m)) where
  abbrev e : Encoding
  e = by.Dictionary entries

  pub stand_in : (x : ℤ) → (StandsIn entries stands x ↔ Contains (known values) x)
  stand_in x = (forth, back)
    where
      forth : StandsIn entries stands x → Contains (known values) x
      forth h = by (get_or values ((marks h.0).0 h.2).0 None) refl
        where
          row : HasCodeFrom e values 0 h.0
          row = (marks h.0).0 h.2

          by : (value : Option ℤ) → get_or values row.0 None ≡ value → Contains (known values) x
          by (Some y) is =
              let it = entry_of entries sound values coded row.0 y row.1 is in
              let code : code_for e (Some y) ≡ h.0 = ap (code_for e) (sym is) ∙ row.3 in
              let same : y ≡ x = sym it.1 ∙ ap (λ c. get_or entries c (pos 0)) code ∙ h.3 in
              rw (← same) (known_at values row.0 y is)
          by None is = let none = sym row.2 ∙ ap is_some is in absurd cc

      back : Contains (known values) x → StandsIn entries stands x
      back h =
          let cell = cell_of values x h.0 h.1 h.2 in
          let it = entry_of entries sound values coded cell.0 x cell.1 cell.2 in
          (code_for e (Some x), it.0, (marks (code_for e (Some x))).1 (cell.0, cell.1, ap is_some cell.2, ap (code_for e) cell.2, omega arith), it.1)
