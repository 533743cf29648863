use Rattle.std.proofs.Common.{◌∙◌, ap, inr, is_some, sym}
use Rattle.std.specs.Map.{lookup}
use Rattle.std.specs.Str.{bytes_eq}
use Rattle.bw_model.specs.Store.{table_of}
use Rattle.bw_model.specs.declared.reply.Reply.TheVariants.{Done}
use Rattle.bw_engine.specs.Stores.{store_of, table_in}
use Rattle.bw_engine.proofs.Steps.{found_in, over_any, over_none, some_map, stored_less}
use Rattle.bw_engine.proofs.drop.drop_table.Goals as goal

pub returns-then-is_some-clause-reply : goal.returns-then-is_some-clause-reply
returns-then-is_some-clause-reply c =
    let tables = c.args.tables.now.entries in
    let name = c.args.table.now in (
      over_any (table_of (store_of tables) name) (ap is_some (found_in tables name) ∙ some_map table_in (lookup (bytes_eq name) tables) ∙ ap is_some (sym c.shift_remove.ensures.value) ∙ sym c.is_some.ensures ∙ c.if-is_some.true),
      ap (λ s. (Done, s)) (ap store_of c.shift_remove.ensures.entries ∙ stored_less tables name),
    )

pub returns-else-is_some-clause-reply : goal.returns-else-is_some-clause-reply
returns-else-is_some-clause-reply c =
    let tables = c.args.tables.now.entries in
    let name = c.args.table.now in
    inr (over_none (table_of (store_of tables) name) (ap is_some (found_in tables name) ∙ some_map table_in (lookup (bytes_eq name) tables) ∙ ap is_some (sym c.shift_remove.ensures.value) ∙ sym c.is_some.ensures ∙ c.if-is_some.false))
