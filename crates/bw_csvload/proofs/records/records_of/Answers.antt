use Rattle.bw_csvload.proofs.Fuel.{length-csv_records}
use Rattle.bw_csvload.proofs.records.records_of.Goals as goal

pub returns-clause-few : goal.returns-clause-few
returns-clause-few c = rw (c.from_reader.ensures.state, c.from_reader.ensures.source) (length-csv_records c.args.text.now)
