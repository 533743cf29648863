-- The slots where a condition is true, by the truth of each slot.
use Rattle.std.proofs.Common.{Bool, List, ap, false, length, refl, true, ℕ, ◌&&◌, ◌≡◌, ◌∙◌}
use Rattle.std.specs.Prelude.{if◌then◌else◌}
use Rattle.bw_mask.specs.Masks.{MaskRows, len, row_at}
use Rattle.bw_mask.specs.Truth.{is_value}
use Rattle.bw_mask.specs.Truths.{truth_at}
use Rattle.bw_mask.specs.declared.truth_value.TruthValue.{TruthValue}
use Rattle.bw_mask.specs.declared.truth_value.TruthValue.TheVariants.{True, Unknown}
use Rattle.bw_column.specs.Comparisons.{AreTrueAt, AreTruthsAt}

true_if : (b : Bool) (truth : TruthValue) → is_value (if b then truth else Unknown) True ≡ (b && is_value truth True)
true_if true truth = refl
true_if false truth = refl

pub found_by_truths : (need : MaskRows) (truth : ℕ → TruthValue) (truths : List TruthValue) (found : MaskRows) → AreTruthsAt need truth truths → len found ≡ length truths → ((i : ℕ) → row_at found i ≡ is_value (truth_at truths i) True) → AreTrueAt need truth found
found_by_truths need truth truths found are long rows = record {
  len = long ∙ are.len;
  rows = λ i. rows i ∙ ap (λ t. is_value t True) (are.rows i) ∙ true_if (row_at need i) (truth i);
}

pub same_found : (need : MaskRows) (f g : ℕ → TruthValue) (found : MaskRows) → ((i : ℕ) → f i ≡ g i) → AreTrueAt need f found → AreTrueAt need g found
same_found need f g found same are = record {
  len = are.len;
  rows = λ i. are.rows i ∙ ap (λ t. row_at need i && is_value t True) (same i);
}
