use Rattle.std.proofs.Common.{length, ◌+◌, ◌<◌, ◌^◌}
use Rattle.bw_csvload.specs.Forms.{cells_in, TakesCells}
use Rattle.bw_csvload.specs.Records.{IsReading, records_left}
use Rattle.bw_csvload.specs.Rows.{all_or_first, numbered, row_of}
use Rattle.bw_csvload.proofs.Firsts.{Loading}
use Rattle.bw_csvload.proofs.load.rows_after.Given as goal

abbrev pub invariant-records : goal.invariant-records
invariant-records l = record {
  reading : IsReading l.reader;
  few : l.before + l.count + length (records_left l.reader) < 2 ^ 64;
  form : TakesCells l.types l.cells;
  rows : Loading (all_or_first (numbered (row_of l.types) (l.before + 1) (records_left l.fn.reader))) (length l.types) l.count (cells_in l.cells) (all_or_first (numbered (row_of l.types) (l.before + l.count + 1) (records_left l.reader)));
}

abbrev pub decreases-records : goal.decreases-records
decreases-records l = length (records_left l.reader)
