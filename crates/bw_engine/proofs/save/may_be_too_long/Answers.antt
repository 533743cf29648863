use Rattle.std.proofs.Common.{ap, arith, false, inl, inr, length, subst, sym, true, ◌∙◌, ◌≡◌, ◌≤◌}
use Rattle.std.specs.Prelude.{map}
use Rattle.std.specs.List.{All, range_with_len}
use Rattle.std.proofs.lemmas.Bool.{cases_lt, lt-ltb}
use Rattle.std.proofs.lemmas.List.{length-map}
use Rattle.std.proofs.lemmas.List.FromFn.{length-map-range_with_len}
use Rattle.bw_file.specs.Format.{spelled_length}
use Rattle.bw_file.specs.declared.version.Version.TheVariants.{Second}
use Rattle.bw_model.specs.Filing.{column_of, file_limit}
use Rattle.bw_model.specs.Store.{Row, value_at}
use Rattle.bw_model.proofs.Lines.{All-map}
use Rattle.bw_engine.specs.Stores.{rows_in}
use Rattle.bw_engine.proofs.save.may_be_too_long.Goals as goal

pub returns : goal.returns
returns c e =
    let table = c.args.table.now in
    let rows = rows_in table.slots in
    let columns = map (column_of rows) (range_with_len 0 (length table.headers)) in
    let heads : c.headers.result.now ≡ table.headers = c.headers.ensures.is ∙ ap (λ t. t.headers) c.stored.ensures in
    let count : length columns ≡ length c.headers.result.now = length-map-range_with_len (column_of rows) 0 (length table.headers) ∙ sym (ap length heads) in
    let long : All (λ cells. length cells ≡ c.row_count.result) columns =
    All-map (column_of rows) c.row_count.result (range_with_len 0 (length table.headers)) (λ k. length-map rows (λ (row : Row). value_at row k) ∙ sym c.row_count.ensures.value) in
    let same : spelled_length Second (record { headers = c.headers.result.now; rows = c.row_count.result; columns = columns }) ≡ spelled_length Second (record { headers = table.headers; rows = length rows; columns = columns }) =
    λ j. spelled_length Second (record { headers = heads j; rows = c.row_count.ensures.value j; columns = columns }) in
    let most = c.longest_length.result in
    let few : c.longest_length.result ≤ file_limit =
    elim (cases_lt file_limit most) [
      | inl more ↦ (let no : true ≡ false = sym (lt-ltb file_limit most more) ∙ e in absurd cc)
      | inr fine ↦ omega (arith, fine)
    ] in
    subst (λ n. n ≤ file_limit) same (omega (arith, c.longest_length.ensures columns count long, few))
