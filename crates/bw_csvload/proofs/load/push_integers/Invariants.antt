use Rattle.std.proofs.Common.{drop, length, map, ◌+◌, ◌≡◌}
use Rattle.bw_code.specs.declared.kind.ColumnType.TheVariants.{Integer}
use Rattle.csv.specs.Records.{fields_of}
use Rattle.bw_csvload.specs.Rows.{all_or_first, cell_at, numbered}
use Rattle.bw_csvload.proofs.Firsts.{Growing}
use Rattle.bw_csvload.proofs.load.push_integers.Given as goal

abbrev pub invariant-places : goal.invariant-places
invariant-places l = let fields = map (λ text. (Integer, text)) (fields_of l.fields) in record {
  wide : length l.cells.items ≡ length l.fn.cells.items + l.i;
  cells : Growing (all_or_first (numbered (cell_at l.number) 1 fields)) l.fn.cells.items l.cells.items (all_or_first (numbered (cell_at l.number) (l.i + 1) (drop l.i fields)));
}
