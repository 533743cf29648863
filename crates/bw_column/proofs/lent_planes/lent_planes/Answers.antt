use Rattle.std.proofs.Common.{FitsSigned, ap, arith, get_or, if◌then◌else◌, inl, inr, length, map, of_z, refl, rules, sym, w64, ℕ, ◌%◌, ◌+◌, ◌-◌, ◌<◌, ◌^◌, ◌≡◌, ◌≤◌, ◌∙◌, ◌⊎◌}
use Rattle.std.proofs.lemmas.Int.{to_z-of_z}
use Rattle.bw_mask.specs.Masks.{bit_of, row_at, row_in}
use Rattle.bw_cells.specs.Distances.{distance_from}
use Rattle.bw_code.specs.Columns.{code_at, count}
use Rattle.bw_code.specs.declared.encoding.Encoding.TheVariants as by
use Rattle.bw_code.proofs.Lists.{made_len}
use Rattle.bw_column.specs.Codes.{value_from, values_from}
use Rattle.bw_column.specs.Storing.{layout_of, list_of}
use Rattle.bw_column.proofs.Bases.{between, distances_are_codes, present_part}
use Rattle.bw_column.proofs.Held.{all_storable}
use Rattle.bw_column.proofs.Lain.{run_of}
use Rattle.bw_column.proofs.Rows.{known_rows, row_coded}
use Rattle.bw_column.proofs.Scans.{all_codes}
use Rattle.bw_column.proofs.ShiftedPlanes.{shifted_bit}
use Rattle.bw_vertical.specs.Planes.{code_by_planes}
use Rattle.bw_column.proofs.lent_planes.lent_planes.Goals as goal

pub returns-then-not-is_frame-clause-planes : goal.returns-then-not-is_frame-clause-planes
returns-then-not-is_frame-clause-planes c b r low h =
    let o = c.args.offset in
    let e = by.Offset c.args.offset in
    let codes = list_of c.args.codes.now in
    let nonnull = c.args.nonnull.now in
    let values = values_from (by.Offset c.args.offset) (list_of c.args.codes.now) c.args.nonnull.now in
    let at = c.args.at in
    let n = c.args.n in
    let block = c.read_block.new.block in
    let present = c.words_of_rows-present.result in
    let whole = c.is_block.ensures c.if-not-is_block.false in
    let here : FitsSigned w64 c.args.base = search rules in
    let fits : FitsSigned w64 o.base = search rules in
    let many : length values ≡ count codes = made_len (count codes) (λ i. value_from e (code_at codes i) (row_at nonnull i)) in
    let ends : r < n ⊎ (length values ≤ at + n) = ends_of (length values) many whole.2 in
    let wide : codes.width ≡ o.width = c.requires.rows.width in
    let own : c.cast_unsigned.result ≡ of_z w64 o.base = c.cast_unsigned.ensures ∙ ap (of_z w64) (to_z-of_z w64 o.base fits) in
    let other : c.cast_unsigned-then-not-is_frame.result ≡ of_z w64 c.args.base = c.cast_unsigned-then-not-is_frame.ensures ∙ ap (of_z w64) (to_z-of_z w64 c.args.base here) in
    let more : (c.cast_unsigned.result + (2 ^ 64 - c.cast_unsigned-then-not-is_frame.result)) % 2 ^ 64 ≡ between o.base c.args.base = rw (own, other) refl in
    c.shift_block.ensures b r low h
    ∙ ap (λ m. bit_of (code_by_planes o.width block r + (if row_in present r then m else 0)) b) more
    ∙ ap (λ k. bit_of (code_by_planes k block r + (if row_in present r then between o.base c.args.base else 0)) b) (sym wide)
    ∙ shifted_bit o codes nonnull c.requires.rows c.args.base fits here at n present block (c.read_block.ensures c.if-not-read_block.false) c.words_of_rows-present.ensures b r (omega (arith, low, c.requires.narrow)) h ends
  where
    ends_of : (m : ℕ) → m ≡ count (list_of c.args.codes.now) → (c.args.n ≡ 2048) ⊎ (c.args.at + c.args.n ≡ c.len.result) → r < c.args.n ⊎ (m ≤ c.args.at + c.args.n)
    ends_of m many (inl full) = inl (omega (arith, full, h))
    ends_of m many (inr last) = inr (omega (arith, last, many, c.len.ensures.count))

pub returns-else-not-is_frame-clause-planes : goal.returns-else-not-is_frame-clause-planes
returns-else-not-is_frame-clause-planes c b r low h =
    let o = c.args.offset in
    let e = by.Offset c.args.offset in
    let codes = list_of c.args.codes.now in
    let nonnull = c.args.nonnull.now in
    let values = values_from (by.Offset c.args.offset) (list_of c.args.codes.now) c.args.nonnull.now in
    let at = c.args.at in
    let n = c.args.n in
    let whole = c.is_block.ensures c.if-not-is_block.false in
    let here : FitsSigned w64 c.args.base = search rules in
    let fits : FitsSigned w64 o.base = search rules in
    let base : o.base ≡ c.args.base = c.if-not-is_frame.ensures.base refl ∙ to_z-of_z w64 c.args.base here in
    let wide : codes.width ≡ c.args.k = c.requires.rows.width ∙ c.if-not-is_frame.ensures.width refl in
    let distances : codes.codes ≡ map (distance_from o.base) values =
    all_codes e codes nonnull c.requires.rows ∙ sym (distances_are_codes o values fits (row_coded e codes nonnull c.requires.rows) (all_storable (layout_of c.args.codes.now) values c.requires.rows.held)) in
    let many : length values ≡ count codes = made_len (count codes) (λ i. value_from e (code_at codes i) (row_at nonnull i)) in
    let ends : r < n ⊎ (length values ≤ at + n) = ends_of (length values) many whole.2 in
    c.read_block.ensures c.if-not-read_block.false b r (omega (arith, low, wide)) h
    ∙ ap (λ l. bit_of (get_or l (at + r) 0) b) (distances ∙ ap (λ z. map (distance_from z) values) base)
    ∙ ap (λ x. bit_of x b) (sym (run_of (distance_from c.args.base) values at n r ends))
  where
    ends_of : (m : ℕ) → m ≡ count (list_of c.args.codes.now) → (c.args.n ≡ 2048) ⊎ (c.args.at + c.args.n ≡ c.len.result) → r < c.args.n ⊎ (m ≤ c.args.at + c.args.n)
    ends_of m many (inl full) = inl (omega (arith, full, h))
    ends_of m many (inr last) = inr (omega (arith, last, many, c.len.ensures.count))

pub returns-then-not-is_frame-clause-present : goal.returns-then-not-is_frame-clause-present
returns-then-not-is_frame-clause-present c i =
    let e = by.Offset c.args.offset in
    let codes = list_of c.args.codes.now in
    c.words_of_rows-present.ensures i ∙ present_part (values_from e codes c.args.nonnull.now) (row_at c.args.nonnull.now) c.args.at c.args.n i (known_rows e codes c.args.nonnull.now c.requires.rows)

pub returns-else-not-is_frame-clause-present : goal.returns-else-not-is_frame-clause-present
returns-else-not-is_frame-clause-present c i =
    let e = by.Offset c.args.offset in
    let codes = list_of c.args.codes.now in
    c.words_of_rows-present.ensures i ∙ present_part (values_from e codes c.args.nonnull.now) (row_at c.args.nonnull.now) c.args.at c.args.n i (known_rows e codes c.args.nonnull.now c.requires.rows)
