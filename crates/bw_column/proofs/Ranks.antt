-- How many places below one are set.
use Rattle.std.proofs.Common.{◌≡◌, ℕ, ◌+◌, ◌<◌, ◌≤◌, true, false, arith, count_by, cond, ap, ◌∙◌, sym, zero, suc, ◌-◌, inl, inr}
use Rattle.std.proofs.lemmas.List.Sums.{count_by_more_yes, count_by_more_no, sum_by-take-le}
use Rattle.std.proofs.lemmas.Bool.{cases_lt}
use Rattle.std.proofs.lemmas.List.{take_all}
use Rattle.bw_mask.specs.Masks.{MaskRows, len, row_at}
use Rattle.bw_column.specs.Places.{rank}

pub rank_set : (places : MaskRows) (i : ℕ) → i < len places → row_at places i ≡ true → rank places (i + 1) ≡ rank places i + 1
rank_set places i l h = count_by_more_yes (λ row. row) places.rows i false l h

pub rank_unset : (places : MaskRows) (i : ℕ) → i < len places → row_at places i ≡ false → rank places (i + 1) ≡ rank places i
rank_unset places i l h = count_by_more_no (λ row. row) places.rows i false l h

-- no more than all
pub rank_few : (places : MaskRows) (i : ℕ) → rank places i ≤ count_by (λ row. row) places.rows
rank_few places i = sum_by-take-le (λ row. cond {A = ℕ} row 1 0) places.rows i

pub rank_below : (places : MaskRows) (i : ℕ) → i < len places → row_at places i ≡ true → rank places i < count_by (λ row. row) places.rows
rank_below places i l h = omega (arith, rank_set places i l h, rank_few places (i + 1))

rank_past : (places : MaskRows) (i : ℕ) → len places ≤ i → rank places (i + 1) ≡ rank places i
rank_past places i h = ap (count_by (λ row. row)) (take_all (i + 1) places.rows (omega arith) ∙ sym (take_all i places.rows h))

rank_more : (places : MaskRows) (i : ℕ) → row_at places i ≡ false → rank places (i + 1) ≡ rank places i
rank_more places i h =
    elim (cases_lt i (len places)) [
      | inl l ↦ rank_unset places i l h
      | inr l ↦ rank_past places i l
    ]

-- places that are not set
rank_over : (places : MaskRows) (at n : ℕ) → ((j : ℕ) → at ≤ j → j < at + n → row_at places j ≡ false) → rank places (at + n) ≡ rank places at
rank_over places at zero none = ap (rank places) (omega arith)
rank_over places at (suc n) none =
    let next : at + suc n ≡ at + n + 1 = omega arith in
    ap (rank places) next ∙ rank_more places (at + n) (none (at + n) (omega arith) (omega arith)) ∙ rank_over places at n (λ j a b. none j a (omega arith))

pub rank_skip : (places : MaskRows) (at place : ℕ) → at ≤ place → ((j : ℕ) → at ≤ j → j < place → row_at places j ≡ false) → rank places place ≡ rank places at
rank_skip places at place h none =
    let far : place ≡ at + (place - at) = omega arith in
    ap (rank places) far ∙ rank_over places at (place - at) (λ j a b. none j a (omega arith))
