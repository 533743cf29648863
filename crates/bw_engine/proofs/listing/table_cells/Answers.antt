use Rattle.std.proofs.Common.{◌≡◌, ◌∙◌, ◌<◌, ℕ, List, arith, ap, get_or, length, sym}
use Rattle.std.proofs.lemmas.List.{get_or-map}
use Rattle.std.proofs.lemmas.Option.{get_or_from_slice_get}
use Rattle.bw_model.specs.Listing.{table_line}
use Rattle.bw_model.specs.Store.{Table}
use Rattle.bw_model.proofs.Lines.{joined_next}
use Rattle.bw_engine.specs.Stores.{StoredTable, store_of, table_in}
use Rattle.bw_engine.proofs.Steps.{tables_count}
use Rattle.bw_engine.proofs.listing.table_cells.Goals as goal

pub loop-i-preserved : goal.loop-i-preserved
loop-i-preserved c =
    let tables = c.args.tables.now.entries in
    let stored : List ℕ × StoredTable = (c.in-Some.name.now, c.in-Some.table.now) in
    let entry : List ℕ × Table = (c.in-Some.name.now, table_in c.in-Some.table.now) in
    let inside : c.loop-i.i < length tables = omega (arith, c.loop-i-test.true, c.len.ensures.len) in
    let within : c.loop-i.i < length (store_of tables) = omega (arith, inside, tables_count tables) in
    let at : entry ≡ get_or (store_of tables) c.loop-i.i entry =
    ap (λ (e : List ℕ × StoredTable). (e.0, table_in e.1)) (sym (get_or_from_slice_get tables c.loop-i.i stored stored (sym c.in-Some.ensures.entry)))
    ∙ sym (get_or-map (λ (e : List ℕ × StoredTable). (e.0, table_in e.1)) tables c.loop-i.i stored entry inside) in
    rw (c.in_ok-show.ensures, c.in_ok-try_clone.ensures, c.loop-i.invariant) (sym (joined_next table_line (store_of tables) c.loop-i.i entry within at))
