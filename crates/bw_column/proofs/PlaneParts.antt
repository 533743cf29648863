-- Cells by the words of their planes, 64 at a time.
use Rattle.std.proofs.Common.{FitsSigned, List, None, Option, [], ap, arith, drop, false, get_or, inl, inr, is_some, length, length-take, map, min, sym, take, w64, ℕ, ℤ, ◌*◌, ◌++◌, ◌+◌, ◌-◌, ◌<◌, ◌^◌, ◌≡◌, ◌≤◌, ◌∙◌}
use Rattle.std.specs.List.{All}
use Rattle.std.proofs.lemmas.Bool.{cases_lt}
use Rattle.std.proofs.lemmas.List.{drop_all, get_or-drop, get_or-take, get_or_past, length-map}
use Rattle.bw_mask.specs.Masks.{bit_of}
use Rattle.bw_mask.proofs.Bits.{bit_above}
use Rattle.bw_cells.specs.Distances.{distance_from}
use Rattle.bw_code.specs.declared.encoding.Encoding.{Encoding}
use Rattle.bw_code.specs.declared.encoding.Encoding.TheVariants as by
use Rattle.bw_code.specs.declared.offset.Offset.{Offset}
use Rattle.bw_code.proofs.Lists.{made_at, part_is, part_over}
use Rattle.bw_column.specs.Codes.{IsCoded, IsRowCode, codes_for}
use Rattle.bw_column.specs.PlaneSources.{ArePlanesOf}
use Rattle.bw_column.specs.Values.{IsNullOrStorable}
use Rattle.bw_column.proofs.Bases.{measured_rows}
use Rattle.bw_column.proofs.Blocks.{rows}
use Rattle.bw_column.proofs.BlockWords.{number_of_word, row_of_word_at}
use Rattle.bw_column.proofs.Lain.{lain_codes, lain_distances}
use Rattle.bw_column.proofs.Pieces.{all_here, map_part}
use Rattle.bw_vertical.specs.Planes.{code_by, code_by_planes}

-- the cells left after a part of at most 64 cells, which is all of them where it is shorter
pub drop_part : {A : Type 0} (xs : List A) (at n m : ℕ) → length xs ≡ n → m ≡ min (n - at) 64 → at < n → drop (at + m) xs ≡ drop (at + 64) xs
drop_part xs at n m long is inside =
    elim (cases_lt m 64) [
      | inl short ↦ drop_all (at + m) xs (omega (arith, long, is, short, inside)) ∙ sym (drop_all (at + 64) xs (omega (arith, long, is, short, inside)))
      | inr whole ↦ let same : at + m ≡ at + 64 = omega (arith, is, whole) in ap (λ k. drop k xs) same
    ]

module _ (o : Offset) (cells : List (Option ℤ)) (block : List (List ℕ)) (present : List ℕ) (n : ℕ) (fits : FitsSigned w64 o.base) (long : length cells ≡ n) (few : n ≤ 2048)
    (coded : All (IsCoded (by.Offset o)) cells) (storable : All IsNullOrStorable cells) (are : ArePlanesOf o.width o.base cells block present)
    (j m : ℕ) (inside : 64 * j < n) (is : m ≡ min (n - 64 * j) 64) where
  abbrev pub part : List (Option ℤ)
  part = take m (drop (64 * j) cells)

  module _ (words codes : List ℕ) (many : length codes ≡ m) (same : (b : ℕ) → b < o.width → get_or words b 0 ≡ get_or (get_or block b []) j 0)
      (each : (r : ℕ) → r < m → get_or codes r 0 ≡ code_by o.width words r) (small : get_or present j 0 < 2 ^ 64) where
    -- the codes of the words are the distances of the part
    part_codes : codes ≡ map (distance_from o.base) part
    part_codes =
        let all = codes_for (by.Offset o) cells in
        let whole = lain_codes o cells block present n fits long few coded storable are in
        let distances = lain_distances o cells block present n fits long few coded storable are in
        let size : length all ≡ n = ap length (sym distances) ∙ length-map cells (distance_from o.base) ∙ long in
        part_is all codes (64 * j) 0 (omega (arith, many, is, inside, size)) (λ r h.
        let low : r < m = omega (arith, h, many) in
        each r low
        ∙ number_of_word o.width j words block same r (omega (arith, low, is))
        ∙ sym (made_at n (code_by_planes o.width block) (64 * j + r) 0 (omega (arith, low, is, inside)))
        ∙ ap (λ l. get_or l (64 * j + r) 0) whole)
        ∙ ap (λ k. take k (drop (64 * j) all)) many
        ∙ ap (λ l. take m (drop (64 * j) l)) (sym distances)
        ∙ sym (map_part (distance_from o.base) cells (64 * j) m)

    -- and the word of rows says which cells of the part are non-null
    part_present : (i : ℕ) → bit_of (get_or present j 0) i ≡ is_some (get_or part i None)
    part_present i =
        elim (cases_lt i m) [
          | inl low ↦
              sym (row_of_word_at present j i (omega (arith, low, is))) ∙ are.present (64 * j + i)
              ∙ ap is_some (sym (get_or-take m (drop (64 * j) cells) i None low ∙ get_or-drop (64 * j) cells i None))
          | inr past ↦ gone past ∙ ap is_some (sym (get_or_past part i None (omega (arith, past, length-take m (drop (64 * j) cells)))))
        ]
      where
        gone : m ≤ i → bit_of (get_or present j 0) i ≡ false
        gone past =
            elim (cases_lt i 64) [
              | inl low ↦
                  sym (row_of_word_at present j i low) ∙ are.present (64 * j + i) ∙ ap is_some (get_or_past cells (64 * j + i) None (omega (arith, past, low, is, long)))
              | inr high ↦ bit_above (get_or present j 0) i small high
            ]

    -- the codes of a part are those of rows, whose values are the cells
    pub part_rows : (e : Encoding) → e ≡ by.Offset o → ((k : ℕ) → k < length codes → IsRowCode e (get_or codes k 0) (bit_of (get_or present j 0) k)) × (rows e codes (get_or present j 0) ≡ part)
    part_rows e same_e =
        measured_rows o e part codes (get_or present j 0) same_e fits (rw same_e (all_here (IsCoded (by.Offset o)) cells (64 * j) m coded)) (all_here IsNullOrStorable cells (64 * j) m storable) part_codes part_present

    -- and once these rows are appended, the cells after them are left
    pub part_appended : (e : Encoding) → e ≡ by.Offset o → (old now new : List (Option ℤ)) → now ++ drop (64 * j) cells ≡ old ++ cells → new ≡ now ++ rows e codes (get_or present j 0) → new ++ drop (64 * (j + 1)) cells ≡ old ++ cells
    part_appended e same_e old now new left added =
        let place : 64 * j + 64 ≡ 64 * (j + 1) = omega arith in
        ap (λ xs. xs ++ drop (64 * (j + 1)) cells) (added ∙ ap (λ xs. now ++ xs) (part_rows e same_e).1)
        ∙ ap (λ k. (now ++ part) ++ drop k cells) (sym place)
        ∙ ap (λ xs. (now ++ part) ++ xs) (sym (drop_part cells (64 * j) n m long is inside))
        ∙ part_over (old ++ cells) now cells (64 * j) m left
