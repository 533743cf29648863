-- The sum of values, one value further.
use Rattle.std.proofs.Common.{All, length, unsigned_abs, ◌*◌, ◌^◌, ◌≤◌, List, [], arith, ℤ, ◌++◌, ◌+ℤ◌, ◌≡◌, ◌∷◌}
use Rattle.std.proofs.lemmas.Int.{ints}
use Rattle.std.proofs.lemmas.List.Elements.{All-head, All-tail}
use Rattle.bw_cells.specs.SetFunctions.{total}
use Rattle.bw_groups.specs.Folding.{IsSmall}

total-append : (xs ys : List ℤ) → total (xs ++ ys) ≡ total xs +ℤ total ys
total-append [] ys = omega (arith, ints)
total-append (x ∷ xs) ys = let rest = total-append xs ys in omega (arith, ints, rest)

pub total_push : (xs : List ℤ) (x : ℤ) → total (xs ++ x ∷ []) ≡ total xs +ℤ x
total_push xs x = let parts = total-append xs (x ∷ []) in omega (arith, ints, parts)

-- the sum of small values
pub total_small : (xs : List ℤ) → All IsSmall xs → unsigned_abs (total xs) ≤ length xs * 2 ^ 38
total_small [] all = omega arith
total_small (x ∷ xs) all =
    let first = All-head IsSmall x xs all in
    let rest = total_small xs (All-tail IsSmall x xs all) in
    omega (arith, ints, first, rest)
