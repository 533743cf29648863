-- The rows of a mask, segment by segment.
use Rattle.std.proofs.Common.{ap, Bool, List, arith, false, inl, inr, refl, sym, ℕ, ◌&&◌, ◌*◌, ◌+◌, ◌<◌, ◌≡◌, ◌≤◌, ◌∙◌}
use Rattle.std.specs.Int.{div_ceil}
use Rattle.std.proofs.lemmas.Bool.{cases_lt}
use Rattle.std.proofs.lemmas.Grind.{div_ceil_times}
use Rattle.std.proofs.lemmas.List.{get_or_past}
use Rattle.std.proofs.lemmas.Nat.{div-mul-add, mod-mul-add}
use Rattle.std.proofs.Math.Nat.{mul-le-mul_left, mul-le-mul_right}
use Rattle.bw_mask.specs.Masks.{MaskRows, len, row_at}
use Rattle.bw_horizontal.specs.Words.{code_at, code_in, segment_rows}

-- segment q begins before the last row
pub begins_below : (n rows q : ℕ) → 0 < rows → q < div_ceil n rows → q < n
begins_below n rows q pos h = omega (arith, (div_ceil_times n rows pos).1, mul-le-mul_right {m = q + 1} {n = div_ceil n rows} rows (omega (arith, h)), mul-le-mul_left {m = 1} {n = rows} q (omega (arith, pos)))

pub code_here : (k : ℕ) (units : List ℕ) (q r : ℕ) → r < segment_rows k → code_in k units (segment_rows k * q + r) ≡ code_at k units q r
code_here k units q r h =
    let turned : segment_rows k * q + r ≡ q * segment_rows k + r = omega arith in
    rw (turned, div-mul-add q (segment_rows k) r h, mod-mul-add q (segment_rows k) r h) refl

-- all rows, where those below the end of the segments are as wanted
pub rows_whole : (n rows q : ℕ) (new : MaskRows) (wanted : ℕ → Bool) → ((j : ℕ) → n ≤ j → wanted j ≡ false) → 0 < rows → len new ≡ n → div_ceil n rows ≤ q → ((j : ℕ) → j < rows * q → j < n → row_at new j ≡ wanted j) → (j : ℕ) → row_at new j ≡ wanted j
rows_whole n rows q new wanted past pos new_len all each j =
    elim (cases_lt j n) [
      | inl l ↦ each j (omega (arith, l, (div_ceil_times n rows pos).0, mul-le-mul_right {m = div_ceil n rows} {n = q} rows all)) l
      | inr far ↦ get_or_past new.rows j false (omega (arith, new_len)) ∙ sym (past j far)
    ]

-- a row that is not there is not needed
pub past_need : (need : MaskRows) (passes : ℕ → Bool) (j : ℕ) → len need ≤ j → (row_at need j && passes j) ≡ false
past_need need passes j h = ap (λ b. b && passes j) (get_or_past need.rows j false h)
