use Rattle.std.proofs.Common.{◌≡◌, ◌∙◌, ◌<◌, ◌^◌, Err, List, Result, ap, arith, length, subst}
use Rattle.std.specs.List.{All}
use Rattle.std.proofs.lemmas.List.{length-map}
use Rattle.bw_code.specs.Types.{IsRowOf, types_of}
use Rattle.bw_model.specs.Store.{Header, Row}
use Rattle.bw_model.specs.declared.refusal.Refusal.{Refusal}
use Rattle.bw_model.specs.declared.refusal.Refusal.TheVariants.{OutOfMemory}
use Rattle.bw_engine.specs.Files.{IsAnswered, SaysLines, Within}
use Rattle.bw_engine.specs.Stores.{table_in}
use Rattle.bw_engine.proofs.Loaded.{AnswersLines, fitting, lines_refused}
use Rattle.bw_engine.proofs.load.load_file.Goals as goal

pub load_rows-requires : goal.load_rows-requires
load_rows-requires c =
    let headers = c.args.table.now.headers in
    let types = c.take_types.ensures ∙ ap types_of c.headers-2.ensures.value in
    let few : length c.take_types.new.types < 2 ^ 64 = omega (arith, ap length types, length-map headers (λ (h : Header). h.column_type), c.headers.ensures.valid.few) in
    subst (λ t. All (IsRowOf t) c.in_ok-rows.rows) types (fitting c.take_types.new.types few c.args.first c.in_ok-rows.rows c.args.file c.in_ok-rows.ensures)

pub returns-in_err-rows-clause-reply : goal.returns-in_err-rows-clause-reply
returns-in_err-rows-clause-reply c =
    let x = c.in_err-rows.field-0.0 in
    let types = c.take_types.ensures ∙ ap types_of c.headers-2.ensures.value in
    lines_refused (types_of c.args.table.now.headers) c.args.first (table_in c.args.table.now) _ x c.args.file c.from_residual.result c.from_residual.ensures.1
    (subst (λ t. IsAnswered c.args.file (Within (SaysLines t c.args.first)) (AnswersLines (Err x)) (◌≡◌ {A = Result (List Row) Refusal} (Err x) (Err OutOfMemory))) types c.in_err-rows.ensures)
