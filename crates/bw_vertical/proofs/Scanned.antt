-- Scans of the planes of a column, and of two columns side by side.
use Rattle.std.proofs.Common.{Bool, List, ap, arith, false, get_or, inl, inr, length, refl, subst, ℕ, ◌&&◌, ◌*◌, ◌+◌, ◌-◌, ◌/◌, ◌<◌, ◌≡◌, ◌∙◌}
use Rattle.std.proofs.lemmas.Bool.{cases_lt}
use Rattle.std.proofs.lemmas.List.{get_or_past}
use Rattle.bw_mask.specs.Masks.{MaskRows, len, row_at, row_in}
use Rattle.bw_code.specs.Units.{agreement, by_planes, cost_of, scan_units, segment_units, segments_of, side_units, units_of_pair, units_of_scan}
use Rattle.bw_code.specs.declared.compare.CodeTest.{CodeTest}
use Rattle.bw_code.specs.declared.kind.Layout.TheVariants.{V}
use Rattle.bw_code.proofs.UnitLemmas.{cost_same, segment_same, sum_same}
use Rattle.bw_vertical.specs.Planes.{code_in}

-- the rows that were found so far, by a segment more
module _
    (need old new : MaskRows) (lanes found : List ℕ) (test : ℕ → Bool) (q : ℕ)
    (same_len : len old ≡ len need) (new_len : len new ≡ len old)
    (inside : (j : ℕ) → j < 256 → 256 * q + j < len old → row_at new (256 * q + j) ≡ row_in found j)
    (before : (j : ℕ) → j < 256 * q → row_at new j ≡ row_at old j)
    (here : (j : ℕ) → j < 256 → row_in lanes j ≡ row_at need (256 * q + j))
    (rows : (j : ℕ) → j < 256 → row_in found j ≡ (row_in lanes j && test (256 * q + j)))
  where
    pub found_more : ((j : ℕ) → j < 256 * q → row_at old j ≡ (row_at need j && test j)) → (j : ℕ) → j < 256 * (q + 1) → row_at new j ≡ (row_at need j && test j)
    found_more so_far j h =
        elim (cases_lt j (256 * q)) [
          | inl l ↦ before j l ∙ so_far j l
          | inr l ↦
              let r = j - 256 * q in
              let within : r < 256 = omega arith in
              let at : 256 * q + r ≡ j = omega arith in
              elim (cases_lt j (len need)) [
                | inl low ↦
                    let row = inside r within (omega (arith, same_len)) ∙ rows r within ∙ ap (λ b. b && test (256 * q + r)) (here r within) in
                    subst (λ n. row_at new n ≡ (row_at need n && test n)) at row
                | inr past ↦
                    let left : row_at new j ≡ false = get_or_past new.rows j false (omega (arith, new_len, same_len)) in
                    let right : row_at need j ≡ false = get_or_past need.rows j false past in
                    left ∙ rw right refl
              ]
        ]

-- the code by the units is the code of the row, also past the last row of the last segment
abbrev pub AreCodes : ℕ → List (List ℕ) → List ℕ → Type 0
AreCodes k units codes = (j : ℕ) → j / 256 < segments_of 256 (length codes) → code_in k units j ≡ get_or codes j 0

module _ (k : ℕ) (units : List (List ℕ)) (codes : List ℕ) (same : AreCodes k units codes) (test : CodeTest) (needed : ℕ → Bool) where
  pub units_scanned : scan_units (by_planes k) test needed (code_in k units) (segments_of 256 (length codes)) ≡ units_of_scan V k test needed codes
  unfolding units_of_scan
  units_scanned =
      sum_same (segments_of 256 (length codes))
      (λ q. segment_units (by_planes k) test (λ j. needed (256 * q + j)) (λ j. code_in k units (256 * q + j)))
      (λ q. segment_units (by_planes k) test (λ j. needed (256 * q + j)) (λ j. get_or codes (256 * q + j) 0))
      (λ q h. segment_same (by_planes k) test _ _ _ _ (λ j l. refl) (λ j l. same (256 * q + j) (omega (arith, h, l))))

-- two columns of as many codes side by side
module _
    (k : ℕ) (units more : List (List ℕ)) (codes others : List ℕ) (same : AreCodes k units codes) (also : AreCodes k more others)
    (count : length others ≡ length codes) (needed : ℕ → Bool)
  where
    other_same : (j : ℕ) → j / 256 < segments_of 256 (length codes) → code_in k more j ≡ get_or others j 0
    other_same j h = also j (omega (arith, h, count))

    -- what is read of one, and as much of the other
    pub units_paired : 2 * side_units (by_planes k) needed (code_in k units) (code_in k more) (segments_of 256 (length codes)) ≡ units_of_pair V k needed codes others
    unfolding units_of_pair
    units_paired =
        ap (λ n. 2 * n) (
        sum_same (segments_of 256 (length codes))
        (λ q. cost_of (by_planes k) (λ j. needed (256 * q + j)) (λ j. agreement 2 k (code_in k units (256 * q + j)) (code_in k more (256 * q + j))))
        (λ q. cost_of (by_planes k) (λ j. needed (256 * q + j)) (λ j. agreement 2 k (get_or codes (256 * q + j) 0) (get_or others (256 * q + j) 0)))
        (λ q h. cost_same (by_planes k) _ _ _ _ (λ j l. refl) (λ j l.
        let low : (256 * q + j) / 256 < segments_of 256 (length codes) = omega (arith, h, l) in
        ap (λ c. agreement 2 k c (code_in k more (256 * q + j))) (same (256 * q + j) low) ∙ ap (λ c. agreement 2 k (get_or codes (256 * q + j) 0) c) (other_same (256 * q + j) low))))
