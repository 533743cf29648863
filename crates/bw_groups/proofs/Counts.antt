-- Where no value is null, each group has as many values as rows.
use Rattle.std.proofs.Common.{Bool, List, None, Option, Some, [], arith, cond, false, if◌then◌else◌, is_some, length, map, refl, sym, true, ℕ, ℤ, ◌&&◌, ◌+◌, ◌==◌, ◌∙◌, ◌∷◌, ◌≡◌}
use Rattle.std.specs.List.{items_where_true, list_all}
use Rattle.std.proofs.lemmas.Bool.{true≢false}
use Rattle.std.proofs.lemmas.List.{get_or_default}
use Rattle.bw_aggregate.proofs.Counting.{count_cons}
use Rattle.bw_cells.specs.SetFunctions.{known}
use Rattle.bw_groups.specs.Folding.{AreFolds, IsCount}
use Rattle.bw_groups.specs.Grouping.{AreCounted, members, rows_in}
use Rattle.bw_groups.specs.Values.{values_of}

pub all_values : (numbers : List ℤ) (tests : List Bool) → length tests ≡ length numbers → list_all (λ test. test) tests ≡ list_all is_some (values_of numbers tests)
all_values [] [] e = refl
all_values [] (test ∷ tests) e = absurd (omega (arith, e))
all_values (x ∷ numbers) [] e = absurd (omega (arith, e))
all_values (x ∷ numbers) (test ∷ tests) e = by test (all_values numbers tests (omega (arith, e)))
  where
    by : (b : Bool) → list_all (λ t. t) tests ≡ list_all is_some (values_of numbers tests) → (b && list_all (λ t. t) tests) ≡ (is_some (if b then Some x else None) && list_all is_some (values_of numbers tests))
    by true rest = rest
    by false rest = refl

both_hold : (a b : Bool) → (a && b) ≡ true → (a ≡ true) × (b ≡ true)
both_hold true b h = (refl, h)
both_hold false b h = absurd (true≢false (sym h))

rows_known : (g : ℕ) (ranks : List ℕ) (values : List (Option ℤ)) → length values ≡ length ranks → list_all is_some values ≡ true → length (known (members ranks values g)) ≡ rows_in ranks g
rows_known g [] [] e all = refl
rows_known g [] (v ∷ values) e all = absurd (omega (arith, e))
rows_known g (r ∷ ranks) [] e all = absurd (omega (arith, e))
rows_known g (r ∷ ranks) (v ∷ values) e all =
    let both = both_hold (is_some v) (list_all is_some values) all in
    by (r == g) v both.0 (count_cons (λ q. q == g) r ranks) (rows_known g ranks values (omega (arith, e)) both.1)
  where
    by : (b : Bool) (value : Option ℤ) → is_some value ≡ true → rows_in (r ∷ ranks) g ≡ cond b 1 0 + rows_in ranks g → length (known (members ranks values g)) ≡ rows_in ranks g
        → length (known (items_where_true (b ∷ map (λ q. q == g) ranks) (value ∷ values))) ≡ rows_in (r ∷ ranks) g
    by true None there one rest = absurd (true≢false (sym there))
    by true (Some x) there one rest = omega (arith, one, rest)
    by false value there one rest = omega (arith, one, rest)

-- the numbers of rows are those of the values
pub times_count : (ranks times counts : List ℕ) (column : List (Option ℤ)) → counts ≡ times → AreCounted ranks times → length column ≡ length ranks → list_all is_some column ≡ true → AreFolds IsCount ranks column counts
times_count ranks times counts column same counted as_many all = rw same (λ g d low. get_or_default times g d 0 low ∙ counted.each g low ∙ sym (rows_known g ranks column as_many all))
