use Rattle.std.proofs.Common.{length, take, ◌++◌, ◌≡◌}
use Rattle.std.specs.List.{AllZip, flat_map}
use Rattle.std.specs.Prelude.{All}
use Rattle.bw_file.specs.Format.{column_bytes}
use Rattle.bw_code.specs.Types.{IsTyped}
use Rattle.bw_file.proofs.columns.columns_in.Given as goal

abbrev pub invariant-columns : goal.invariant-columns
invariant-columns l = record {
  count : length l.columns.items ≡ l.i;
  long : All (λ cells. length cells ≡ l.rows) l.columns.items;
  typed : AllZip IsTyped (take l.i l.headers) l.columns.items;
  bytes : l.fn.bytes ≡ flat_map (column_bytes l.version) l.columns.items ++ l.rest;
}
