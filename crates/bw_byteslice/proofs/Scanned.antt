-- What a scan of slices in memory costs.
use Rattle.std.proofs.Common.{Bool, List, ap, arith, get_or, length, refl, ℕ, ◌*◌, ◌+◌, ◌≡◌, ◌∙◌}
use Rattle.std.specs.Int.{div_ceil}
use Rattle.bw_code.specs.Units.{by_slices, cost_of, scan_units, segment_units, segments_of, side_units, units_of_pair, units_of_scan}
use Rattle.bw_code.specs.declared.compare.CodeTest.{CodeTest}
use Rattle.bw_code.specs.declared.kind.Layout.TheVariants.{S}
use Rattle.bw_code.proofs.UnitLemmas.{cost_same, segment_same, sum_same}
use Rattle.bw_byteslice.specs.Slices.{code_in, slices_of}
use Rattle.bw_byteslice.specs.Storing.{AreSlices, code_of, units_of}
use Rattle.bw_byteslice.proofs.InUnits.{code_here}

pub units_are : (k n : ℕ) (slices : List (List ℕ)) → AreSlices k n slices → (test : CodeTest) (needed : ℕ → Bool) (codes : List ℕ) → ((j : ℕ) → code_of k slices j ≡ get_or codes j 0) → (rows : ℕ) → rows ≡ length codes
    → scan_units (by_slices k (slices_of k)) test needed (code_in k (units_of slices)) (segments_of 32 rows) ≡ units_of_scan S k test needed codes
unfolding units_of_scan
units_are k n slices stored test needed codes each rows same =
    let cut = by_slices k (slices_of k) in
    let count : slices_of k ≡ div_ceil k 8 = omega arith in
    sum_same (segments_of 32 rows)
    (λ q. segment_units cut test (λ j. needed (32 * q + j)) (λ j. code_in k (units_of slices) (32 * q + j)))
    (λ q. segment_units cut test (λ j. needed (32 * q + j)) (λ j. get_or codes (32 * q + j) 0))
    (λ q _. segment_same cut test _ _ _ _ (λ j _. refl) (λ j _. code_here k n slices stored (32 * q + j) ∙ each (32 * q + j)))
    ∙ ap (λ m. scan_units (by_slices k m) test needed (λ i. get_or codes i 0) (segments_of 32 rows)) count
    ∙ ap (λ m. scan_units (by_slices k (div_ceil k 8)) test needed (λ i. get_or codes i 0) (segments_of 32 m)) same

-- the same of two columns side by side
pub pair_units_are : (k n also_n : ℕ) (slices others : List (List ℕ)) → AreSlices k n slices → AreSlices k also_n others → (needed : ℕ → Bool) (codes also : List ℕ) → ((j : ℕ) → code_of k slices j ≡ get_or codes j 0) → ((j : ℕ) → code_of k others j ≡ get_or also j 0) → (rows : ℕ) → rows ≡ length codes
    → 2 * side_units (by_slices k (slices_of k)) needed (code_in k (units_of slices)) (code_in k (units_of others)) (segments_of 32 rows) ≡ units_of_pair S k needed codes also
unfolding units_of_pair
pair_units_are k n also_n slices others stored also_stored needed codes also each also_each rows same =
    let cut = by_slices k (slices_of k) in
    let count : slices_of k ≡ div_ceil k 8 = omega arith in
    ap (λ units. 2 * units)
    (sum_same (segments_of 32 rows)
    (λ q. cost_of cut (λ j. needed (32 * q + j)) (λ j. cut.agree (code_in k (units_of slices) (32 * q + j)) (code_in k (units_of others) (32 * q + j))))
    (λ q. cost_of cut (λ j. needed (32 * q + j)) (λ j. cut.agree (get_or codes (32 * q + j) 0) (get_or also (32 * q + j) 0)))
    (λ q _. cost_same cut _ _ _ _ (λ j _. refl) (λ j _.
    ap (λ x. cut.agree x (code_in k (units_of others) (32 * q + j))) (code_here k n slices stored (32 * q + j) ∙ each (32 * q + j))
    ∙ ap (cut.agree (get_or codes (32 * q + j) 0)) (code_here k also_n others also_stored (32 * q + j) ∙ also_each (32 * q + j))))
    ∙ ap (λ m. side_units (by_slices k m) needed (λ i. get_or codes i 0) (λ i. get_or also i 0) (segments_of 32 rows)) count
    ∙ ap (λ m. side_units (by_slices k (div_ceil k 8)) needed (λ i. get_or codes i 0) (λ i. get_or also i 0) (segments_of 32 m)) same)
