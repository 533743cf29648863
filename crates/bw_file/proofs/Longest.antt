-- How many bytes columns have at most.
use Rattle.std.proofs.Common.{All, List, Option, [], ap, arith, length, ℕ, ℤ, ◌*◌, ◌+◌, ◌≡◌, ◌≤◌, ◌∷◌}
use Rattle.std.proofs.Math.Nat.{mul-le-mul_right}
use Rattle.std.specs.List.{sum_by}
use Rattle.std.proofs.lemmas.List.Elements.{All-head, All-tail}
use Rattle.std.proofs.lemmas.List.Sums.{sum_by-cons}
use Rattle.bw_cells.specs.Known.{known}
use Rattle.bw_file.specs.Cells.{presence_size}
use Rattle.bw_file.specs.Format.{column_size}
use Rattle.bw_file.specs.Planes.{column_size as plane_column_size, frame_of}
use Rattle.bw_file.specs.declared.version.Version.TheVariants.{Second}
use Rattle.bw_file.proofs.Parts.{few_wide}

one_short : (rows : ℕ) (cells : List (Option ℤ)) → length cells ≡ rows → column_size Second cells ≤ plane_column_size 64 rows
one_short rows cells long =
    let width = (frame_of (known cells)).width in
    let size : presence_size (length cells) ≡ presence_size rows = ap presence_size long in
    omega (arith, size, mul-le-mul_right {m = width + 1} {n = 64 + 1} (presence_size (length cells)) (omega (arith, few_wide (known cells))))

pub sizes_short : (rows size : ℕ) → size ≡ plane_column_size 64 rows → (columns : List (List (Option ℤ))) → All (λ cells. length cells ≡ rows) columns → sum_by (column_size Second) columns ≤ length columns * size
sizes_short rows size is [] long = omega arith
sizes_short rows size is (cells ∷ columns) long =
    let first = one_short rows cells (All-head (λ (c : List (Option ℤ)). length c ≡ rows) cells columns long) in
    let rest = sizes_short rows size is columns (All-tail (λ (c : List (Option ℤ)). length c ≡ rows) cells columns long) in
    omega (arith, sum_by-cons (column_size Second) cells columns, first, rest, is)
