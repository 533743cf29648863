use Rattle.std.proofs.Common.{◌∙◌, ◌++◌, [], ◌∷◌, ap, is_some, length, nat_le, sym}
use Rattle.std.specs.Map.{lookup}
use Rattle.std.specs.Str.{bytes_eq}
use Rattle.std.proofs.lemmas.Bool.{le-leb, lt-leb}
use Rattle.indexmap.proofs.CallerLemmas.{insert_entry-new}
use Rattle.bw_model.specs.Store.{Table, table_limit}
use Rattle.bw_model.specs.declared.refusal.Refusal.TheVariants.{OverLimit, TableExists}
use Rattle.bw_engine.specs.Stores.{store_of, table_in}
use Rattle.bw_engine.proofs.Opened.{open_accepted, open_adds, open_exists, open_fails, open_over, open_refused, open_wants}
use Rattle.bw_engine.proofs.Steps.{absent-none, found_in, some_map, stored_more, tables_count}
use Rattle.bw_engine.proofs.open.open_table.Goals as goal

pub returns-then-contains_key-clause-reply : goal.returns-then-contains_key-clause-reply
returns-then-contains_key-clause-reply c =
    let tables = c.args.tables.now.entries in
    let name = c.args.statement.table in
    let store = store_of tables in
    let there = ap is_some (found_in tables name) ∙ some_map table_in (lookup (bytes_eq name) tables) ∙ sym c.contains_key.ensures ∙ c.if-contains_key.true in
    open_refused store name c.args.statement.file c.args.file TableExists store (open_exists store name c.args.statement.file there)

pub returns-then-len-ge-TABLE_LIMIT-clause-reply : goal.returns-then-len-ge-TABLE_LIMIT-clause-reply
returns-then-len-ge-TABLE_LIMIT-clause-reply c =
    let tables = c.args.tables.now.entries in
    let name = c.args.statement.table in
    let store = store_of tables in
    let absent = ap is_some (found_in tables name) ∙ some_map table_in (lookup (bytes_eq name) tables) ∙ sym c.contains_key.ensures ∙ c.if-contains_key.false in
    let full = ap (nat_le table_limit) (tables_count tables ∙ sym c.len.ensures.len) ∙ le-leb table_limit c.len.result c.if-len-ge-TABLE_LIMIT.true in
    open_refused store name c.args.statement.file c.args.file OverLimit store (open_over store name c.args.statement.file absent full)

pub returns-in_err-parts-clause-reply : goal.returns-in_err-parts-clause-reply
returns-in_err-parts-clause-reply c =
    let tables = c.args.tables.now.entries in
    let name = c.args.statement.table in
    let store = store_of tables in
    let absent = ap is_some (found_in tables name) ∙ some_map table_in (lookup (bytes_eq name) tables) ∙ sym c.contains_key.ensures ∙ c.if-contains_key.false in
    let room = ap (nat_le table_limit) (tables_count tables ∙ sym c.len.ensures.len) ∙ lt-leb table_limit c.len.result c.if-len-ge-TABLE_LIMIT.false in
    open_fails store name c.args.statement.file (open_accepted store name c.args.statement.file absent room) c.args.file c.in_err-parts.field-0.0 c.from_residual.result store c.in_err-parts.ensures c.from_residual.ensures.1

pub returns-in_err-new-clause-reply : goal.returns-in_err-new-clause-reply
returns-in_err-new-clause-reply c =
    let tables = c.args.tables.now.entries in
    let name = c.args.statement.table in
    let store = store_of tables in
    let absent = ap is_some (found_in tables name) ∙ some_map table_in (lookup (bytes_eq name) tables) ∙ sym c.contains_key.ensures ∙ c.if-contains_key.false in
    let room = ap (nat_le table_limit) (tables_count tables ∙ sym c.len.ensures.len) ∙ lt-leb table_limit c.len.result c.if-len-ge-TABLE_LIMIT.false in
    open_wants store name c.args.statement.file (open_accepted store name c.args.statement.file absent room) c.args.file c.in_ok-parts.parts c.in_ok-parts.ensures c.from_residual-in_err-new.result store c.from_residual-in_err-new.ensures.1

pub returns-in_err-insert-clause-reply : goal.returns-in_err-insert-clause-reply
returns-in_err-insert-clause-reply c =
    let tables = c.args.tables.now.entries in
    let name = c.args.statement.table in
    let store = store_of tables in
    let absent = ap is_some (found_in tables name) ∙ some_map table_in (lookup (bytes_eq name) tables) ∙ sym c.contains_key.ensures ∙ c.if-contains_key.false in
    let room = ap (nat_le table_limit) (tables_count tables ∙ sym c.len.ensures.len) ∙ lt-leb table_limit c.len.result c.if-len-ge-TABLE_LIMIT.false in
    open_wants store name c.args.statement.file (open_accepted store name c.args.statement.file absent room) c.args.file c.in_ok-parts.parts c.in_ok-parts.ensures c.from_residual-in_err-insert.result (store_of c.insert.new.self.entries) c.from_residual-in_err-insert.ensures.1

pub returns-clause-reply : goal.returns-clause-reply
returns-clause-reply c =
    let tables = c.args.tables.now.entries in
    let name = c.args.statement.table in
    let store = store_of tables in
    let none = sym c.contains_key.ensures ∙ c.if-contains_key.false in
    let absent = ap is_some (found_in tables name) ∙ some_map table_in (lookup (bytes_eq name) tables) ∙ none in
    let room = ap (nat_le table_limit) (tables_count tables ∙ sym c.len.ensures.len) ∙ lt-leb table_limit c.len.result c.if-len-ge-TABLE_LIMIT.false in
    let after =
    ap store_of (c.in_ok-insert.ensures.entries ∙ insert_entry-new bytes_eq c.args.tables.now name c.in_ok-new.new (absent-none (lookup (bytes_eq name) tables) none))
    ∙ stored_more tables name c.in_ok-new.new
    ∙ ap (λ table. store ++ (name, table) ∷ []) c.in_ok-new.ensures.table in
    open_adds store name c.args.statement.file (open_accepted store name c.args.statement.file absent room) c.args.file c.in_ok-parts.parts c.in_ok-parts.ensures c.row_count-count.result (store_of c.insert.new.self.entries)
    (c.row_count-count.ensures.value ∙ ap (λ (table : Table). length table.rows) c.in_ok-new.ensures.table) after

pub returns-clause-stored : goal.returns-clause-stored
returns-clause-stored c =
    let tables = c.args.tables.now.entries in
    let name = c.args.statement.table in
    record {
      table = c.in_ok-new.new;
      is_new = c.in_ok-new.ensures.is_new;
      added = c.in_ok-insert.ensures.entries ∙ insert_entry-new bytes_eq c.args.tables.now name c.in_ok-new.new (absent-none (lookup (bytes_eq name) tables) (sym c.contains_key.ensures ∙ c.if-contains_key.false));
    }
