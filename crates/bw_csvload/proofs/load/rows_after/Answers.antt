use Rattle.std.proofs.Common.{arith, length, length-append, ◌+◌, ◌≡◌, ap}
use Rattle.csv.specs.Records.{fields_of}
use Rattle.bw_csvload.specs.Forms.{cells_in}
use Rattle.bw_csvload.specs.Records.{records_left}
use Rattle.bw_csvload.specs.Rows.{all_or_first, numbered, row_of}
use Rattle.bw_csvload.proofs.Firsts.{load_next}
use Rattle.bw_csvload.proofs.load.rows_after.Goals as goal

pub records-preserved : goal.records-preserved
records-preserved c =
    let inv = c.records.invariant in
    let next = rw c.if-branch.true at c.in_ok-read_next.ensures.next in
    let row = c.in_ok-push_row.ensures.row in
    let types = c.args.types.now in
    let before = cells_in c.records.cells in
    let wide : length row.0 ≡ length types = omega (arith, c.in_ok-push_row.ensures.wide, ap length row.2, length-append before row.0) in
    let few = inv.few in
    record {
      reading = c.in_ok-read_next.ensures.reading c.if-branch.true;
      few = omega (arith, ap length next);
      form = c.push_row.ensures.form;
      rows = rw row.2 (load_next (all_or_first (numbered (row_of types) (c.args.before + 1) (records_left c.args.reader.now))) types c.records.count (c.args.before + c.records.count + 1) _ before row.0 (fields_of c.read_next.new.fields) (records_left c.records.reader) (records_left c.read_next.new.reader) inv.rows next row.1 wide (omega arith));
    }
