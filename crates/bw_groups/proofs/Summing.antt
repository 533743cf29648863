-- A summary by what was folded.
use Rattle.std.proofs.Common.{Bool, IsTrue, List, None, Option, Some, [], ap, arith, false, get_or, if◌then◌else◌, length, not, refl, sym, true, ℕ, ℤ, ◌&&◌, ◌<◌, ◌==◌, ◌||◌, ◌∙◌, ◌∷◌, ◌≡◌}
use Rattle.std.proofs.lemmas.Bool.Decides.{nat_tests}
use Rattle.std.proofs.lemmas.List.FromFn.{get_or-map-range_with_len, length-map-range_with_len}
use Rattle.bw_aggregate.specs.Summaries.{IsSummary}
use Rattle.bw_aggregate.specs.declared.summary.Asked.{Asked}
use Rattle.bw_aggregate.specs.declared.summary.Summary.{Summary}
use Rattle.bw_cells.specs.SetFunctions.{greatest, least, median, sum, total}
use Rattle.bw_code.specs.Fittings.{AreEnds}
use Rattle.bw_code.specs.declared.ends.Ends.{Ends}
use Rattle.bw_groups.specs.Folding.{greatest_in, if_any, least_in, summaries, summary_at, summary_by}
use Rattle.bw_groups.proofs.Ends.{greatest_told, least_told}

sum_is : (b : Bool) (vs : List ℤ) (n : ℕ) (s : ℤ) → n ≡ length vs → (IsTrue b → s ≡ total vs) → if_any b n s ≡ (if b then sum vs else None)
sum_is false vs n s e h = refl
sum_is true [] n s e h = let test : (n == 0) ≡ true = grind (arith, nat_tests, e) in ap (λ t. if true && not t then Some s else None) test
sum_is true (x ∷ xs) n s e h = let test : (n == 0) ≡ false = grind (arith, nat_tests, e) in ap (λ t. if true && not t then Some s else None) test ∙ ap (λ y. Some y) (h refl)

median_is : (b : Bool) (vs : List ℤ) (n : ℕ) (m : ℤ) → n ≡ length vs → (IsTrue b → 0 < length vs → median vs ≡ Some m) → if_any b n m ≡ (if b then median vs else None)
median_is false vs n m e h = refl
median_is true [] n m e h = let test : (n == 0) ≡ true = grind (arith, nat_tests, e) in ap (λ t. if true && not t then Some m else None) test
median_is true (x ∷ xs) n m e h = let test : (n == 0) ≡ false = grind (arith, nat_tests, e) in ap (λ t. if true && not t then Some m else None) test ∙ sym (h refl (omega arith))

least_is : (b : Bool) (vs : List ℤ) (ends : Option Ends) → (IsTrue b → AreEnds vs ends) → (if b then least_in ends else None) ≡ (if b then least vs else None)
least_is false vs ends h = refl
least_is true vs None h = sym (ap least (h refl))
least_is true vs (Some e) h = sym (least_told vs e.least (h refl).0)

greatest_is : (b : Bool) (vs : List ℤ) (ends : Option Ends) → (IsTrue b → AreEnds vs ends) → (if b then greatest_in ends else None) ≡ (if b then greatest vs else None)
greatest_is false vs ends h = refl
greatest_is true vs None h = sym (ap greatest (h refl))
greatest_is true vs (Some e) h = sym (greatest_told vs e.greatest (h refl).1)

or_left : (a b : Bool) → a ≡ true → (a || b) ≡ true
or_left a b h = ap (λ x. x || b) h

or_right : (a b : Bool) → b ≡ true → (a || b) ≡ true
or_right true b h = refl
or_right false b h = h

pub summary_is : (asked : Asked) (vs : List ℤ) (count : ℕ) (s : ℤ) (ends : Option Ends) (m : ℤ) → count ≡ length vs → (IsTrue asked.sum → s ≡ total vs) → (IsTrue (asked.least || asked.greatest) → AreEnds vs ends)
    → (IsTrue asked.median → 0 < length vs → median vs ≡ Some m) → IsSummary asked vs (summary_by asked count s ends m)
summary_is asked vs count s ends m counted summed ended middle = record {
  count = counted;
  sum = sum_is asked.sum vs count s counted summed;
  least = least_is asked.least vs ends (λ h. ended (or_left asked.least asked.greatest h));
  greatest = greatest_is asked.greatest vs ends (λ h. ended (or_right asked.least asked.greatest h));
  median = median_is asked.median vs count m counted middle;
}

module _ (asked : Asked) (counts : List ℕ) (sums : List ℤ) (ends : List (Option Ends)) (medians : List ℤ) where
  pub summaries_count : length (summaries asked counts sums ends medians) ≡ length counts
  summaries_count = length-map-range_with_len (summary_at asked counts sums ends medians) 0 (length counts)

  pub summary_there : (g : ℕ) (d : Summary) → g < length counts → get_or (summaries asked counts sums ends medians) g d ≡ summary_at asked counts sums ends medians g
  summary_there g d low =
      get_or-map-range_with_len (summary_at asked counts sums ends medians) 0 (length counts) g g d low (omega arith)
