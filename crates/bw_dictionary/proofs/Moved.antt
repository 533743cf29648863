-- Places of cells that move by a table.
use Rattle.std.proofs.Common.{List, None, Option, Some, ap, arith, drop, get_or, if◌then◌else◌, is_some, length, length-drop, length-take, map, pos, refl, sym, take, true, true≢false, ℕ, ℤ, ◌+◌, ◌<◌, ◌≡◌, ◌≤◌, ◌∙◌}
use Rattle.std.specs.Prelude.{unwrap_or}
use Rattle.std.proofs.lemmas.List.{get_or-map, get_or_default, length-map}
use Rattle.bw_mask.specs.Masks.{bit_of}
use Rattle.bw_cells.specs.Known.{known}
use Rattle.bw_cells.proofs.Known.{known_at}
use Rattle.bw_code.specs.Encodings.{AreDistinct}
use Rattle.bw_code.proofs.Entries.{entry_at}
use Rattle.bw_code.proofs.Lists.{made_is, part_at}
use Rattle.bw_dictionary.specs.Moving.{moved_place}
use Rattle.bw_dictionary.specs.Ranking.{place_of}

module _ (cells : List (Option ℤ)) (entries : List ℤ) (table places : List ℕ) (distinct : AreDistinct (known cells) entries) (are : places ≡ map (place_of entries) cells) (enough : length table ≡ length entries) where
  place_inside : (i : ℕ) (x : ℤ) → get_or cells i None ≡ Some x → place_of entries (Some x) < length entries
  place_inside i x e =
      let there = (distinct.same x).1 (known_at cells i x e) in
      let code = entry_at entries x there.0 distinct.ascending there.1 (get_or_default entries there.0 (pos 0) x there.1 ∙ there.2) in
      let is : place_of entries (Some x) ≡ there.0 = ap (λ c. unwrap_or c 0) code in
      omega (arith, is, there.1)

  module _ (at n : ℕ) (run : List ℕ) (present : ℕ) (inside : at + n ≤ length cells) (part : run ≡ take n (drop at places))
      (bits : (i : ℕ) → bit_of present i ≡ is_some (get_or (take n (drop at cells)) i None)) where
    abbrev here : List (Option ℤ)
    here = take n (drop at cells)

    many_here : length here ≡ n
    many_here = omega (arith, length-take n (drop at cells), length-drop at cells, inside)

    many : length run ≡ n
    many = ap length part ∙ omega (arith, length-take n (drop at places), length-drop at places, inside, ap length are, length-map cells (place_of entries))

    cell_at : (k : ℕ) → k < n → get_or here k None ≡ get_or cells (at + k) None
    cell_at k h = part_at cells here at n k None refl (omega (arith, h, many_here))

    place_at : (k : ℕ) → k < n → get_or run k 0 ≡ place_of entries (get_or here k None)
    place_at k h =
        part_at places run at n k 0 part (omega (arith, h, many)) ∙ ap (λ xs. get_or xs (at + k) 0) are
        ∙ get_or-map (place_of entries) cells (at + k) None 0 (omega (arith, h, inside)) ∙ ap (place_of entries) (sym (cell_at k h))

    pub moves_inside : (k : ℕ) → k < length run → bit_of present k ≡ true → get_or run k 0 < length table
    moves_inside k h set = by (get_or here k None) refl
      where
        low : k < n
        low = omega (arith, h, many)

        by : (cell : Option ℤ) → get_or here k None ≡ cell → get_or run k 0 < length table
        by (Some x) e =
            let is = place_at k low ∙ ap (place_of entries) e in
            let it = place_inside (at + k) x (sym (cell_at k low) ∙ e) in
            omega (arith, is, it, enough)
        by None e = absurd (true≢false (sym set ∙ bits k ∙ ap is_some e))

    pub moved : (new : List ℕ) → length new ≡ length run → ((k : ℕ) → k < length run → get_or new k 0 ≡ (if bit_of present k then get_or table (get_or run k 0) 0 else 0)) → new ≡ map (moved_place table entries) here
    moved new long each =
        let f = λ (k : ℕ). moved_place table entries (get_or here k None) in
        made_is n f new 0 (long ∙ many) is ∙ sym (made_is n f (map (moved_place table entries) here) 0 (length-map here (moved_place table entries) ∙ many_here) (λ k h. get_or-map (moved_place table entries) here k None 0 (omega (arith, h, many_here))))
      where
        is : (k : ℕ) → k < n → get_or new k 0 ≡ moved_place table entries (get_or here k None)
        is k h = each k (omega (arith, h, many)) ∙ by (get_or here k None) refl
          where
            by : (cell : Option ℤ) → get_or here k None ≡ cell → (if bit_of present k then get_or table (get_or run k 0) 0 else 0) ≡ moved_place table entries cell
            by (Some x) e = rw (bits k ∙ ap is_some e) (ap (λ p. get_or table p 0) (place_at k h ∙ ap (place_of entries) e))
            by None e = rw (bits k ∙ ap is_some e) refl
