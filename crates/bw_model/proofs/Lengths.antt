-- How long a table's file is, at least.
use Rattle.std.proofs.Common.{◌≡◌, ◌≤◌, ◌<◌, ◌+◌, ◌*◌, ℕ, true, List, length, map, nat_lt, zero, suc, arith}
use Rattle.std.specs.List.{range_with_len, sum_by}
use Rattle.std.proofs.lemmas.Bool.{lt-ltb}
use Rattle.std.proofs.lemmas.List.{length-map}
use Rattle.std.proofs.lemmas.List.Sums.{sum_by-cons}
use Rattle.bw_cells.specs.Known.{known}
use Rattle.bw_file.specs.Cells.{presence_size}
use Rattle.bw_file.specs.Format.{column_size}
use Rattle.bw_file.specs.Planes.{frame_of}
use Rattle.bw_file.specs.declared.version.Version.TheVariants.{Second}
use Rattle.bw_model.specs.Filing.{column_of, file_limit, filed_length}
use Rattle.bw_model.specs.Store.{Row, Table, value_at}

once : (n s : ℕ) → 0 < n → s ≤ n * s
once zero s some = absurd (omega arith)
once (suc n) s some = omega arith

-- there is a column, and it has a bit for each row
first_column : (rows : List Row) (n : ℕ) → 0 < n → presence_size (length rows) ≤ sum_by (column_size Second) (map (column_of rows) (range_with_len 0 n))
first_column rows zero some = absurd (omega (arith, some))
first_column rows (suc n) some =
    let cells = column_of rows 0 in
    let long : length cells ≡ length rows = length-map rows (λ row. value_at row 0) in
    let one = once ((frame_of (known cells)).width + 1) (presence_size (length cells)) (omega arith) in
    omega (arith, one, long, sum_by-cons (column_size Second) cells (map (column_of rows) (range_with_len 1 n)))

pub too_many_rows : (table : Table) → 0 < length table.headers → 8 * file_limit < length table.rows → nat_lt file_limit (filed_length table) ≡ true
too_many_rows table some many =
    let one = first_column table.rows (length table.headers) some in
    lt-ltb file_limit (filed_length table) (omega (arith, one, many))
