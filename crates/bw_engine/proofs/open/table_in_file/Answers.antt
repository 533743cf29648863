use Rattle.std.proofs.Common.{◌∙◌, Err, Ok, ap, inr, refl}
use Rattle.bw_model.specs.Filing.{filed}
use Rattle.bw_model.specs.declared.content.Content.TheVariants.{Held, NotTable}
use Rattle.bw_model.specs.declared.refusal.Refusal.TheVariants.{NotTableFile}
use Rattle.bw_engine.specs.Files.{unfiled}
use Rattle.bw_engine.proofs.Opened.{by_bytes, by_wants, holds_unfiled, no_bytes}
use Rattle.bw_engine.proofs.open.table_in_file.Goals as goal

pub returns-in_err-bytes : goal.returns-in_err-bytes
returns-in_err-bytes c = no_bytes c.args.file c.in_err-bytes.field-0.0 c.from_residual.result c.in_err-bytes.ensures c.from_residual.ensures.1

pub returns-in-Ok : goal.returns-in-Ok
returns-in-Ok c = by_bytes c.args.file c.in_ok-bytes.bytes (Ok c.in-Ok.parts) (Held (unfiled c.in-Ok.parts)) c.in_ok-bytes.ensures (holds_unfiled c.in_ok-bytes.bytes.now c.in-Ok.parts c.in-Ok.ensures.found) (refl, refl)

pub returns-in-Err-NotTable : goal.returns-in-Err-NotTable
returns-in-Err-NotTable c =
    by_bytes c.args.file c.in_ok-bytes.bytes (Err NotTableFile) NotTable c.in_ok-bytes.ensures
    (λ table holds. c.decode.ensures.none (c.in-Err-NotTable.is ∙ ap (λ e. Err e) c.in-Err-NotTable.field-0-is) (filed table) holds.spells) (inr refl)

pub returns-in-Err-Memory : goal.returns-in-Err-Memory
returns-in-Err-Memory c =
    by_wants c.args.file c.in_ok-bytes.bytes c.in_ok-bytes.ensures
