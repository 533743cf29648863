use Rattle.std.proofs.Common.{map, take, ◌++◌, ◌≡◌}
use Rattle.std.specs.List.{flat_map}
use Rattle.bw_file.specs.Format.{column_bytes}
use Rattle.bw_file.specs.declared.version.Version.TheVariants.{Second}
use Rattle.bw_file.proofs.columns.put_columns.Given as goal

abbrev pub invariant-columns : goal.invariant-columns
invariant-columns g l = l.bytes.items ≡ l.fn.bytes.items ++ flat_map (column_bytes Second) (take l.i (map g.C.Cells.cells l.columns))
