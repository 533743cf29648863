use Rattle.std.proofs.Common.{◌≡◌, ◌≤◌, ◌+◌, ◌*◌, ◌^◌, length, map}
use Rattle.std.specs.List.{range_with_len, sum_by}
use Rattle.bw_file.specs.Format.{column_size}
use Rattle.bw_file.specs.Headers.{header_size}
use Rattle.bw_file.specs.declared.version.Version.TheVariants.{Second}
use Rattle.bw_model.specs.Filing.{column_of}
use Rattle.bw_model.proofs.file_length.is_too_long.Given as goal

-- the columns so far are counted
abbrev pub invariant-loop-k : goal.invariant-loop-k
invariant-loop-k l = record {
  size : l.length ≡ 14 + sum_by (header_size Second) l.table.headers + sum_by (column_size Second) (map (column_of l.rows) (range_with_len 0 l.k));
  bound : l.length ≤ 14 + length l.table.headers * (2 ^ 64 + 4) + l.k * 2 ^ 36;
}
