-- Segments of two columns side by side.
use Rattle.std.proofs.Common.{Bool, List, arith, false, refl, ℕ, ◌&&◌, ◌*◌, ◌+◌, ◌/◌, ◌<◌, ◌≡◌, ◌≤◌, ◌∙◌}
use Rattle.bw_code.specs.Tests.{code_compares}
use Rattle.bw_code.specs.Units.{segments_of, side_units, some_below}
use Rattle.bw_code.specs.declared.compare.CmpOp.{CmpOp}
use Rattle.bw_code.proofs.UnitLemmas.{cost_same}
use Rattle.bw_byteslice.specs.Slices.{by_bytes, number_in, side_cost}
use Rattle.bw_byteslice.proofs.Words.{none_past, sum_by_twos}

-- what a segment costs, and its rows, by the needed rows of all and by the units as they were
module _
    (m p : ℕ) (need rows : ℕ → Bool) (units others now also : List (List ℕ))
    (each : (r : ℕ) → r < 32 → rows r ≡ need (32 * p + r)) (kept : now ≡ units) (also_kept : also ≡ others)
  where
    pub cost_here : side_cost m rows (λ r. number_in m now (32 * p + r)) (λ r. number_in m also (32 * p + r))
        ≡ side_cost m (λ r. need (32 * p + r)) (λ r. number_in m units (32 * p + r)) (λ r. number_in m others (32 * p + r))
    cost_here = cost_same (by_bytes m) rows (λ r. need (32 * p + r)) _ _ each (λ r h. rw (kept, also_kept) refl)

    pub rows_here : (op : CmpOp) (found : ℕ → Bool)
        → ((r : ℕ) → r < 32 → found r ≡ (rows r && code_compares op (number_in m now (32 * p + r)) (number_in m also (32 * p + r))))
        → (r : ℕ) → r < 32 → found r ≡ (need (32 * p + r) && code_compares op (number_in m units (32 * p + r)) (number_in m others (32 * p + r)))
    rows_here op found is r h = is r h ∙ rw (each r h, kept, also_kept) refl

-- the segments of all words cost what those of all rows do
pub whole_cost : (m n words : ℕ) (need : ℕ → Bool) (number other : ℕ → ℕ) → words ≡ (n + 63) / 64 → ((j : ℕ) → n ≤ j → need j ≡ false)
    → side_units (by_bytes m) need number other (2 * words) ≡ side_units (by_bytes m) need number other (segments_of 32 n)
whole_cost m n words need number other count past =
    let q = segments_of 32 n in
    let none : some_below 32 (λ r. need (32 * q + r)) ≡ false = none_past n q (λ r. need (32 * q + r)) need (λ r h. refl) past (omega arith) in
    sum_by_twos n words (λ p. side_cost m (λ r. need (32 * p + r)) (λ r. number (32 * p + r)) (λ r. other (32 * p + r))) count (λ _. rw none refl)
