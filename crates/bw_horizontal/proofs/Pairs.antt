-- The rows of a segment whose codes satisfy the comparison with those of other units.
use Rattle.std.proofs.Common.{Bool, List, bit_or, get_or, ltb, subst, ℕ, ◌&&◌, ◌*◌, ◌+◌, ◌-◌, ◌/◌, ◌^◌, ◌≡◌, ◌≤◌}
use Rattle.bw_lane.specs.declared.sections.LaneOp.{LaneOp}
use Rattle.bw_lane.specs.Sections.{IsCompared, holds, on, section_of, sections_in}
use Rattle.bw_lane.proofs.Joins.{AreJoined, compared_marks, word_joined}
use Rattle.bw_horizontal.specs.Words.{code_at, segment_rows}
use Rattle.bw_horizontal.proofs.Marks.{all_rows}

-- whether section t of word i of segment q exists and satisfies the comparison with the other one
abbrev pub comparing : LaneOp → ℕ → List ℕ → List ℕ → ℕ → ℕ → ℕ → Bool
comparing op k units others q i t = ltb t (sections_in k) && holds op (section_of k t (get_or units (q * (k + 1) + i) 0)) (section_of k t (get_or others (q * (k + 1) + i) 0))

module _ (op : LaneOp) (k q i rows : ℕ) (units others : List ℕ) where
  -- the rows of the segment by one word more of each
  pub pair_joined : (x y found : ℕ) → i ≤ k → x ≡ get_or units (q * (k + 1) + i) 0 → y ≡ get_or others (q * (k + 1) + i) 0 → IsCompared op k x y found
      → AreJoined k (comparing op k units others q) i rows → AreJoined k (comparing op k units others q) (i + 1) (bit_or rows (found / 2 ^ (k - i)))
  pair_joined x y found within is also compared before =
      let u = get_or units (q * (k + 1) + i) 0 in
      let v = get_or others (q * (k + 1) + i) 0 in
      let marks = compared_marks op k u v found (subst (λ w. IsCompared op k u w found) also (subst (λ w. IsCompared op k w y found) is compared)) in
      word_joined k (comparing op k units others q) i rows found within before marks

  -- by all words
  pub pair_all : i ≡ k + 1 → AreJoined k (comparing op k units others q) i rows → (r : ℕ) → on rows r ≡ (ltb r (segment_rows k) && holds op (code_at k units q r) (code_at k others q r))
  pair_all all joined r =
      all_rows k i rows (λ n t. holds op (section_of k t (get_or units (q * (k + 1) + n) 0)) (section_of k t (get_or others (q * (k + 1) + n) 0))) all joined r
