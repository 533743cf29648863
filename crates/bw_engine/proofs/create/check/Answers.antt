use Rattle.std.proofs.Common.{◌∙◌, ◌==◌, ◌||◌, ap, is_some, length, nat_le, nat_lt, not, sym}
use Rattle.std.proofs.lemmas.List.{length-map}
use Rattle.bw_model.specs.Store.{are_distinct, column_limit, header_of, table_limit}
use Rattle.bw_model.proofs.Names.{names_of_definitions, narrow_of_definitions}
use Rattle.std.specs.Map.{lookup}
use Rattle.std.specs.Str.{bytes_eq}
use Rattle.bw_engine.specs.Stores.{store_of, table_in}
use Rattle.bw_engine.proofs.Steps.{found_in, some_map, tables_count}
use Rattle.bw_plan.proofs.Tests.{no_test, this_test}
use Rattle.bw_engine.proofs.create.check.Goals as goal

pub returns-then-contains_key : goal.returns-then-contains_key
returns-then-contains_key c =
    this_test _ _ _ (ap is_some (found_in c.args.tables.now.entries c.args.table.now) ∙ some_map table_in (lookup (bytes_eq c.args.table.now) c.args.tables.now.entries) ∙ sym c.contains_key.ensures ∙ c.if-contains_key.true)

pub returns-then-name_twice : goal.returns-then-name_twice
returns-then-name_twice c =
    let absent = ap is_some (found_in c.args.tables.now.entries c.args.table.now) ∙ some_map table_in (lookup (bytes_eq c.args.table.now) c.args.tables.now.entries) ∙ sym c.contains_key.ensures ∙ c.if-contains_key.false in
    no_test _ _ _ absent ∙ this_test _ _ _ (ap (λ l. not (are_distinct l)) (names_of_definitions c.args.columns.now) ∙ sym c.name_twice.ensures ∙ c.if-name_twice.true)

pub returns-then-is_over_limit : goal.returns-then-is_over_limit
returns-then-is_over_limit c =
    let count = length-map c.args.columns.now header_of in
    let absent = ap is_some (found_in c.args.tables.now.entries c.args.table.now) ∙ some_map table_in (lookup (bytes_eq c.args.table.now) c.args.tables.now.entries) ∙ sym c.contains_key.ensures ∙ c.if-contains_key.false in
    let once = ap (λ l. not (are_distinct l)) (names_of_definitions c.args.columns.now) ∙ sym c.name_twice.ensures ∙ c.if-name_twice.false in
    let over =
    ap (λ n. n == 0 || nat_lt column_limit n || nat_le table_limit (length (store_of c.args.tables.now.entries))) count
    ∙ ap (λ n. length c.args.columns.now == 0 || nat_lt column_limit (length c.args.columns.now) || nat_le table_limit n) (tables_count c.args.tables.now.entries ∙ sym c.len.ensures.len)
    ∙ sym c.is_over_limit.ensures ∙ c.if-is_over_limit.true in
    no_test _ _ _ absent ∙ no_test _ _ _ once ∙ this_test _ _ _ over

pub returns-then-defines_too_narrow : goal.returns-then-defines_too_narrow
returns-then-defines_too_narrow c =
    let count = length-map c.args.columns.now header_of in
    let absent = ap is_some (found_in c.args.tables.now.entries c.args.table.now) ∙ some_map table_in (lookup (bytes_eq c.args.table.now) c.args.tables.now.entries) ∙ sym c.contains_key.ensures ∙ c.if-contains_key.false in
    let once = ap (λ l. not (are_distinct l)) (names_of_definitions c.args.columns.now) ∙ sym c.name_twice.ensures ∙ c.if-name_twice.false in
    let within =
    ap (λ n. n == 0 || nat_lt column_limit n || nat_le table_limit (length (store_of c.args.tables.now.entries))) count
    ∙ ap (λ n. length c.args.columns.now == 0 || nat_lt column_limit (length c.args.columns.now) || nat_le table_limit n) (tables_count c.args.tables.now.entries ∙ sym c.len.ensures.len)
    ∙ sym c.is_over_limit.ensures ∙ c.if-is_over_limit.false in
    no_test _ _ _ absent ∙ no_test _ _ _ once ∙ no_test _ _ _ within ∙ this_test _ _ _ (narrow_of_definitions c.args.columns.now ∙ sym c.defines_too_narrow.ensures ∙ c.if-defines_too_narrow.true)

pub returns : goal.returns
returns c =
    let count = length-map c.args.columns.now header_of in
    let absent = ap is_some (found_in c.args.tables.now.entries c.args.table.now) ∙ some_map table_in (lookup (bytes_eq c.args.table.now) c.args.tables.now.entries) ∙ sym c.contains_key.ensures ∙ c.if-contains_key.false in
    let once = ap (λ l. not (are_distinct l)) (names_of_definitions c.args.columns.now) ∙ sym c.name_twice.ensures ∙ c.if-name_twice.false in
    let within =
    ap (λ n. n == 0 || nat_lt column_limit n || nat_le table_limit (length (store_of c.args.tables.now.entries))) count
    ∙ ap (λ n. length c.args.columns.now == 0 || nat_lt column_limit (length c.args.columns.now) || nat_le table_limit n) (tables_count c.args.tables.now.entries ∙ sym c.len.ensures.len)
    ∙ sym c.is_over_limit.ensures ∙ c.if-is_over_limit.false in
    (no_test _ _ _ absent ∙ no_test _ _ _ once ∙ no_test _ _ _ within ∙ no_test _ _ _ (narrow_of_definitions c.args.columns.now ∙ sym c.defines_too_narrow.ensures ∙ c.if-defines_too_narrow.false), tt)
