use Rattle.std.proofs.Common.{◌∙◌, ap, is_some, sym}
use Rattle.std.specs.Map.{lookup}
use Rattle.std.specs.Str.{bytes_eq}
use Rattle.bw_model.specs.Store.{table_of}
use Rattle.bw_engine.specs.Stores.{store_of, table_in}
use Rattle.bw_engine.proofs.Executed.{not_over}
use Rattle.bw_engine.proofs.Steps.{found_in, some_map}
use Rattle.bw_engine.proofs.engine.may_load.Goals as goal

pub returns : goal.returns
returns c file first =
    let tables = c.args.tables.now.entries in
    let name = c.args.table.now in
    c.contains_key.ensures ∙ sym (ap is_some (found_in tables name) ∙ some_map table_in (lookup (bytes_eq name) tables)) ∙ not_over (table_of (store_of tables) name)
