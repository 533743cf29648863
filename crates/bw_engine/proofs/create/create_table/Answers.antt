use Rattle.std.proofs.Common.{◌∙◌, [], ◌∷◌, ◌++◌, ap, is_some, map, sym}
use Rattle.indexmap.proofs.CallerLemmas.{insert_entry-new}
use Rattle.std.specs.Map.{lookup}
use Rattle.std.specs.Str.{bytes_eq}
use Rattle.bw_model.specs.declared.reply.Reply.TheVariants.{Done}
use Rattle.bw_model.specs.Store.{header_of}
use Rattle.bw_model.proofs.Names.{headers_from}
use Rattle.bw_model.proofs.Passing.{passes}
use Rattle.bw_engine.specs.Stores.{store_of, table_in}
use Rattle.bw_engine.proofs.Steps.{absent-none, found_in, some_map, stored_more}
use Rattle.bw_engine.proofs.create.create_table.Goals as goal

pub empty_table-requires : goal.empty_table-requires
empty_table-requires c =
    let tested = rw c.as_slice.ensures.value at c.in_ok-check.ensures in
    let pass = passes (map header_of c.args.statement.columns.items) c.args.statement.table (store_of c.args.tables.now.entries) tested.0 in
    headers_from (map header_of c.args.statement.columns.items) pass.some pass.few pass.distinct pass.wide

pub returns-clause-reply : goal.returns-clause-reply
returns-clause-reply c =
    let tables = c.args.tables.now.entries in
    let name = c.args.statement.table in
    let tested = rw c.as_slice.ensures.value at c.in_ok-check.ensures in
    let absent = sym (some_map table_in (lookup (bytes_eq name) tables)) ∙ ap is_some (sym (found_in tables name)) ∙ (passes (map header_of c.args.statement.columns.items) name (store_of tables) tested.0).absent in
    let after =
    ap store_of (c.in_ok-insert.ensures.entries
    ∙ insert_entry-new bytes_eq c.args.tables.now name c.in_ok-new.new (absent-none (lookup (bytes_eq name) tables) absent))
    ∙ stored_more tables name c.in_ok-new.new
    ∙ ap (λ table. store_of tables ++ (name, table) ∷ []) c.in_ok-new.ensures.table in
    (tested.0, ap (λ s. (Done, s)) after)

pub returns-clause-stored : goal.returns-clause-stored
returns-clause-stored c =
    let tables = c.args.tables.now.entries in
    let name = c.args.statement.table in
    let tested = rw c.as_slice.ensures.value at c.in_ok-check.ensures in
    let absent = sym (some_map table_in (lookup (bytes_eq name) tables)) ∙ ap is_some (sym (found_in tables name)) ∙ (passes (map header_of c.args.statement.columns.items) name (store_of tables) tested.0).absent in
    record {
      table = c.in_ok-new.new;
      is_new = c.in_ok-new.ensures.is_new;
      added = c.in_ok-insert.ensures.entries ∙ insert_entry-new bytes_eq c.args.tables.now name c.in_ok-new.new (absent-none (lookup (bytes_eq name) tables) absent);
    }
