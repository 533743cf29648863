use Rattle.std.proofs.Common.{All, arith, get_or, length, ◌<◌, ◌≡◌}
use Rattle.std.proofs.lemmas.List.{get_or_default}
use Rattle.bw_column.specs.Columns.{ColumnView, Keeps}
use Rattle.bw_column.specs.Values.{IsNullOrHeld}
use Rattle.bw_table.specs.Slots.{column_of}
use Rattle.bw_table.proofs.Readied.{kept_set, ready_more}
use Rattle.bw_table.proofs.appending.prepare.Goals as goal

pub room_for-requires-clause-held : goal.room_for-requires-clause-held
room_for-requires-clause-held c =
    let x = c.index_mut.result.now in
    let held : All (IsNullOrHeld (get_or c.args.columns.now.items c.loop-k.k x).layout) (column_of c.args.rows.now c.loop-k.k) = c.requires.held c.loop-k.k x (omega arith) in
    rw (c.new-values.ensures.rows, c.new-values.ensures.column, c.index_mut.ensures.value, (c.loop-k.invariant.kept.each c.loop-k.k x).layout) held

pub loop-k-preserved : goal.loop-k-preserved
loop-k-preserved c =
    let columns = c.loop-k.columns.items in
    let inside : c.loop-k.k < length columns = omega arith in
    let keeps : (d : ColumnView) → Keeps c.room_for.new.self (get_or columns c.loop-k.k d) = λ d. rw (get_or_default columns c.loop-k.k d c.index_mut.result.now inside, ← c.index_mut.ensures.value) c.room_for.ensures.keeps in
    let few : length c.loop-k.prepared.items ≡ c.loop-k.k = omega arith in
    record {
      kept = kept_set columns c.args.columns.now.items c.loop-k.k c.room_for.new.self inside keeps c.loop-k.invariant.kept;
      count = omega (arith, c.in_ok-push.ensures.len);
      ready = rw c.in_ok-push.ensures.items (ready_more columns c.args.columns.now.items c.loop-k.k c.room_for.new.self inside keeps c.args.rows.now c.loop-k.prepared.items _ few c.loop-k.invariant.ready (rw (c.new-values.ensures.rows, c.new-values.ensures.column) at c.in_ok-room_for.ensures.prepared));
    }
