-- Worked examples of ranks and medians, computed by the definitions.
use Rattle.std.proofs.Common.{List, Some, [], negsuc, pos, refl, ℤ, ◌++◌, ◌≡◌, ◌∷◌}
use Rattle.bw_cells.specs.SetFunctions.{median}
use Rattle.bw_merge.specs.Ranks.{below, inside, up_to}

abbrev one : List ℤ
one = pos 7 ∷ pos 3 ∷ pos 3 ∷ pos 9 ∷ []

abbrev other : List ℤ
other = negsuc 4 ∷ pos 8 ∷ []

-- of -5, 3, 3, 7, 8, 9 the third is the median
counted_one : up_to (pos 3) one ≡ 2
counted_one = refl

counted_both : up_to (pos 3) (one ++ other) ≡ 3
counted_both = refl

less_counted : below (pos 3) (one ++ other) ≡ 1
less_counted = refl

-- 3 and -5 are the medians of each, and that of both lies between them
median_of_one : median one ≡ Some (pos 3)
median_of_one = refl

median_of_other : median other ≡ Some (negsuc 4)
median_of_other = refl

median_of_both : median (one ++ other) ≡ Some (pos 3)
median_of_both = refl

-- between 3 and 7 the median has rank 3 - 1
in_range : inside (pos 3) (pos 7) (one ++ other) ≡ pos 7 ∷ pos 3 ∷ pos 3 ∷ []
in_range = refl
