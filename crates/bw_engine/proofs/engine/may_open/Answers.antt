use Rattle.std.proofs.Common.{◌∙◌, ap, is_some, length, nat_lt, not, sym}
use Rattle.std.specs.Map.{lookup}
use Rattle.std.specs.Str.{bytes_eq}
use Rattle.bw_model.specs.Store.{table_of}
use Rattle.bw_engine.specs.Stores.{store_of, table_in}
use Rattle.bw_engine.proofs.Executed.{new_table, old_table}
use Rattle.bw_engine.proofs.Steps.{found_in, some_map, tables_count}
use Rattle.bw_engine.proofs.engine.may_open.Goals as goal

pub returns-then-not-contains_key : goal.returns-then-not-contains_key
returns-then-not-contains_key c file =
    let tables = c.args.tables.now.entries in
    let name = c.args.table.now in
    let absent = ap is_some (found_in tables name) ∙ some_map table_in (lookup (bytes_eq name) tables) ∙ sym c.contains_key.ensures ∙ c.if-not-contains_key.true in
    ap (λ n. nat_lt n 64) (c.len.ensures.len ∙ sym (tables_count tables)) ∙ new_table (is_some (table_of (store_of tables) name)) (length (store_of tables)) absent

pub returns-else-not-contains_key : goal.returns-else-not-contains_key
returns-else-not-contains_key c file =
    let tables = c.args.tables.now.entries in
    let name = c.args.table.now in
    let there = ap is_some (found_in tables name) ∙ some_map table_in (lookup (bytes_eq name) tables) ∙ sym c.contains_key.ensures ∙ c.if-not-contains_key.false in
    ap not c.if-not-contains_key.false ∙ old_table (is_some (table_of (store_of tables) name)) _ there
