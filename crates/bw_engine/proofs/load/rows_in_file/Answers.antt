use Rattle.std.proofs.Common.{subst}
use Rattle.bw_csvload.specs.Rows.{IsFault, rows_of_file}
use Rattle.bw_engine.proofs.Loaded.{faulty, unread}
use Rattle.bw_engine.proofs.load.rows_in_file.Goals as goal

pub returns-in_err-bytes : goal.returns-in_err-bytes
returns-in_err-bytes c = unread c.args.types.now c.args.first c.in_err-bytes.field-0.0 c.args.file c.from_residual.result c.in_err-bytes.ensures c.from_residual.ensures.1

pub returns-in_err-rows : goal.returns-in_err-rows
returns-in_err-rows c =
    faulty c.args.types.now c.args.first c.in_ok-bytes.bytes c.in_err-rows.field-0.0 c.args.file c.from_residual-in_err-rows.result c.in_ok-bytes.ensures
    (subst (λ first. IsFault (rows_of_file c.args.types.now first c.in_ok-bytes.bytes.now) c.in_err-rows.field-0.0) c.first_of.ensures c.in_err-rows.ensures) c.from_residual-in_err-rows.ensures.1
