-- Lists by their lengths.
use Rattle.std.proofs.Common.{◌≡◌, ℕ, ◌≤◌, List, [], ◌∷◌, ◌++◌, drop, length, map, sum, take, refl, ap, ◌∙◌, arith, append-nil, length-append}
use Rattle.std.proofs.lemmas.List.{drop_all, take_all}
use Rattle.std.proofs.lemmas.List.Sums.{sum_by-cons}
use Rattle.std.proofs.Math.Seq.{drop-append_seam, take-append_seam}
use Rattle.bw_sql.specs.Rows.{joined, rows_of}

module _ {A : Type 0} where
  pub sum-widths : (rows : List (List A)) → sum (map length rows) ≡ length (joined rows)
  sum-widths [] = refl
  sum-widths (row ∷ rows) = omega (arith, sum_by-cons (λ n. n) (length row) (map length rows), sum-widths rows, length-append row (joined rows))

  pub rows_of-widths : (rows : List (List A)) → rows_of (map length rows) (joined rows) ≡ rows
  rows_of-widths [] = refl
  rows_of-widths (row ∷ rows) =
      ap (λ front. front ∷ rows_of (map length rows) (drop (length row) (row ++ joined rows))) (take-append_seam row (joined rows))
      ∙ ap (λ rest. row ∷ rows_of (map length rows) rest) (drop-append_seam row (joined rows))
      ∙ ap (λ l. row ∷ l) (rows_of-widths rows)

  -- a list in the place of one of its length
  pub whole_again : (n : ℕ) (new old : List A) → length old ≤ length new → length new ≤ n → take n (new ++ drop (length new) old) ≡ new
  whole_again n new old same fits = ap (λ l. take n (new ++ l)) (drop_all (length new) old same) ∙ ap (take n) (append-nil new) ∙ take_all n new fits
