-- Lines of one width in one list.
use Rattle.std.proofs.Common.{List, [], ap, arith, drop, get_or, length, refl, suc, take, zero, ℕ, ◌*◌, ◌+◌, ◌++◌, ◌<◌, ◌≡◌, ◌∙◌, ◌∷◌, length-drop, ◌≤◌}
use Rattle.std.proofs.Math.Nat.{mul-le-mul_right}
use Rattle.std.proofs.lemmas.List.{drop-append-le, drop-drop, take-append-drop, take-append-le, take_all}
use Rattle.std.specs.List.{flat_map}
use Rattle.bw_csvload.specs.Rows.{lines_of}

module _ {A : Type 0} where
  pub length-lines_of : (w n : ℕ) (cells : List A) → length (lines_of w n cells) ≡ n
  length-lines_of w zero cells = refl
  length-lines_of w (suc n) cells = ap suc (length-lines_of w n (drop w cells))

  pub lines_push : (w n : ℕ) (cells row : List A) → length cells ≡ n * w → length row ≡ w → lines_of w (suc n) (cells ++ row) ≡ lines_of w n cells ++ row ∷ []
  lines_push w zero [] row filled wide = ap (λ r. r ∷ []) (take_all w row (omega arith))
  lines_push w zero (x ∷ cells) row filled wide = absurd (omega arith)
  lines_push w (suc n) cells row filled wide =
      let room : w ≤ length cells = omega arith in
      let less : length (drop w cells) ≡ n * w = omega (arith, length-drop w cells) in
      let first : take w (cells ++ row) ≡ take w cells = take-append-le w cells row room in
      let rest : drop w (cells ++ row) ≡ drop w cells ++ row = drop-append-le w cells row room in
      ap (λ r. r ∷ lines_of w (suc n) (drop w (cells ++ row))) first
      ∙ ap (λ more. take w cells ∷ lines_of w (suc n) more) rest
      ∙ ap (λ more. take w cells ∷ more) (lines_push w n (drop w cells) row less wide)

  pub line_at : (w n i : ℕ) (cells : List A) → i < n → get_or (lines_of w n cells) i [] ≡ take w (drop (i * w) cells)
  line_at w zero i cells h = absurd (omega arith)
  line_at w (suc n) zero cells h = let e : zero * w ≡ 0 = omega arith in rw e refl
  line_at w (suc n) (suc i) cells h =
      let e : suc i * w ≡ w + i * w = omega arith in
      line_at w n i (drop w cells) (omega arith) ∙ rw e (ap (take w) (drop-drop (i * w) w cells))

  -- the lines, joined, are the cells
  pub joined-lines_of : (w n : ℕ) (cells : List A) → length cells ≡ n * w → flat_map (λ row. row) (lines_of w n cells) ≡ cells
  joined-lines_of w zero [] filled = refl
  joined-lines_of w zero (x ∷ cells) filled = absurd (omega arith)
  joined-lines_of w (suc n) cells filled =
      let less : length (drop w cells) ≡ n * w = omega (arith, length-drop w cells) in
      ap (λ rest. take w cells ++ rest) (joined-lines_of w n (drop w cells) less) ∙ take-append-drop w cells

-- row i ends within n rows
pub row_within : (w n i : ℕ) → i < n → i * w + w ≤ n * w
row_within w n i h = let rows : (i + 1) * w ≤ n * w = mul-le-mul_right w (omega arith) in omega arith
