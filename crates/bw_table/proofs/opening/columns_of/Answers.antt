use Rattle.std.proofs.Common.{[], ap, arith, length, map, sym, ◌<◌, ◌∙◌, ◌≡◌}
use Rattle.std.proofs.lemmas.List.{get_or-map, get_or_default, length-map}
use Rattle.bw_table.proofs.Opened.{opened_more}
use Rattle.bw_table.proofs.opening.columns_of.Goals as goal

pub column_of-requires-clause-few : goal.column_of-requires-clause-few
column_of-requires-clause-few g c =
    let columns = c.args.columns.now in
    let inside : c.loop-k.k < length columns = omega (arith, c.requires.wide) in
    let at = get_or-map g.C.Cells.cells columns c.loop-k.k c.index-columns-k.result [] inside ∙ ap g.C.Cells.cells (sym c.index-columns-k.is) in
    rw (← at) (c.requires.few c.loop-k.k [] (omega (arith, inside, length-map columns g.C.Cells.cells)))

pub column_of-requires-clause-held : goal.column_of-requires-clause-held
column_of-requires-clause-held g c =
    let columns = c.args.columns.now in
    let headers = c.args.headers.now.items in
    let h = c.index.result.now in
    let inside : c.loop-k.k < length columns = omega (arith, c.requires.wide) in
    let at = get_or-map g.C.Cells.cells columns c.loop-k.k c.index-columns-k.result [] inside ∙ ap g.C.Cells.cells (sym c.index-columns-k.is) in
    rw (← at, c.index.ensures) (c.requires.held c.loop-k.k h (omega (arith, inside, c.requires.wide)))

pub loop-k-preserved : goal.loop-k-preserved
loop-k-preserved g c =
    let columns = c.args.columns.now in
    let headers = c.args.headers.now.items in
    let opened = c.loop-k.opened.items in
    let inside : c.loop-k.k < length columns = omega (arith, c.requires.wide) in
    let here : c.loop-k.k < length headers = omega (arith, c.requires.wide) in
    let at = get_or-map g.C.Cells.cells columns c.loop-k.k c.index-columns-k.result [] inside ∙ ap g.C.Cells.cells (sym c.index-columns-k.is) in
    let count : length opened ≡ c.loop-k.k = omega (arith, c.loop-k.invariant.count, c.loop-k.opened.ok.0) in
    record {
      count = omega (arith, c.in_ok-push.ensures.len, c.loop-k.invariant.count);
      each =
          rw c.in_ok-push.ensures.items
          (opened_more headers (map g.C.Cells.cells columns) opened c.in_ok-column_of.field-0 c.loop-k.k count c.loop-k.invariant.each (λ h. rw (at, ← (c.index.ensures ∙ get_or_default headers c.loop-k.k c.index.result.now h here)) c.in_ok-column_of.ensures));
    }

pub returns : goal.returns
returns g c =
    let headers = c.args.headers.now.items in
    let all : c.loop-k.k ≡ length headers = omega (arith, c.loop-k-test.false, c.loop-k.auto.k-end, c.len-k-end.ensures, c.args.headers.now.ok.0) in
    record {
      count = omega (arith, c.loop-k.invariant.count, c.loop-k.opened.ok.0, all);
      each = rw (← all) c.loop-k.invariant.each;
    }
