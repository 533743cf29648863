use Rattle.std.proofs.Common.{ap, arith, length, sym, ◌∙◌, ◌≡◌, ◌≤◌}
use Rattle.std.proofs.lemmas.List.{length-map, take_all}
use Rattle.std.proofs.lemmas.List.FromFn.{length-map-range_with_len}
use Rattle.bw_model.specs.Filing.{column_of}
use Rattle.bw_engine.specs.Saving.{saved_cells}
use Rattle.bw_engine.specs.Stores.{rows_in}
use Rattle.bw_engine.proofs.Saved.{columns_more, typed_more}
use Rattle.bw_engine.proofs.SetRows.{no_header}
use Rattle.bw_engine.proofs.live_cells.live_columns.Goals as goal

pub loop-k-preserved : goal.loop-k-preserved
loop-k-preserved c =
    let columns = c.loop-k.columns.items in
    let rows = rows_in c.args.table.now.slots in
    let k = c.loop-k.k in
    let count : length columns ≡ k = sym (length-map columns saved_cells) ∙ ap length c.loop-k.invariant.cells ∙ length-map-range_with_len (column_of rows) 0 k in
    record {
      cells = columns_more columns c.push.new.self.items c.in_ok-live_column.field-0 rows k c.loop-k.invariant.cells c.in_ok-live_column.ensures.cells c.in_ok-push.ensures.items;
      typed = typed_more c.args.table.now.headers columns c.push.new.self.items c.in_ok-live_column.field-0 k no_header (omega (arith, c.loop-k-test.true, (rw c.headers.ensures.value at c.len-width.ensures.count))) count c.loop-k.invariant.typed
          (c.in_ok-live_column.ensures.typed no_header) c.in_ok-push.ensures.items;
    }

pub returns-clause-typed : goal.returns-clause-typed
returns-clause-typed c =
    let headers = c.args.table.now.headers in
    let all : length headers ≤ c.loop-k.k = omega (arith, c.loop-k-test.false, (rw c.headers.ensures.value at c.len-width.ensures.count)) in
    rw (take_all c.loop-k.k headers all) at c.loop-k.invariant.typed
