use Rattle.std.proofs.Common.{ap, arith, length}
use Rattle.bw_file.proofs.Fronts.{wide}
use Rattle.test_formats.proofs.files_seen.check_written.Goals as goal

pub file_length-length-requires-clause-some : goal.file_length-length-requires-clause-some
file_length-length-requires-clause-some g c =
    let table = c.headers-2.ensures.table in
    let many = wide c.args.table.now.headers c.args.table.now.columns table.typed in
    omega (arith, table.headers.few, many, ap length c.columns-2.ensures)
