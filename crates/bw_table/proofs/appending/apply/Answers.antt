use Rattle.std.proofs.Common.{◌≡◌, ◌<◌, ◌+◌, arith, length, get_or, true, ◌∙◌, vec_len}
use Rattle.std.proofs.lemmas.List.{get_or_default, get_or-set_other}
use Rattle.bw_column.specs.Columns.{ColumnView}
use Rattle.bw_column.specs.Preparing.{IsPreparedFor}
use Rattle.bw_table.specs.Halves.{IsMade}
use Rattle.bw_table.specs.Slots.{column_of}
use Rattle.bw_table.proofs.Readied.{popped, front_is, made_by, made_more}
use Rattle.bw_table.proofs.appending.apply.Goals as goal

pub append-requires : goal.append-requires
append-requires c =
    let n = c.len-k.result in
    let rest = c.loop-last.rest in
    let is = popped c.args.prepared.items rest.items c.pop.new.self.items c.in-Some.last (vec_len rest) n c.loop-last.invariant.rest (omega arith) c.in-Some.ensures.items (omega arith) in
    let column = c.index_mut.result.now in
    let less : n < vec_len rest = omega (arith, c.in-Some.ensures.len) in
    let same = c.index_mut.ensures.value ∙ c.loop-last.invariant.same n column less in
    let low : n < vec_len c.args.columns.now = omega arith in
    let ready : IsPreparedFor (get_or c.args.columns.now.items n column) (column_of c.args.rows.now n) true (get_or c.args.prepared.items n c.in-Some.last) = c.requires.ready n column c.in-Some.last low in
    rw (same, c.new-values.ensures.rows, c.new-values.ensures.column) (rw (is c.in-Some.last) at ready)

pub loop-last-preserved : goal.loop-last-preserved
loop-last-preserved c =
    let n = c.len-k.result in
    let rest = c.loop-last.rest in
    let columns = c.loop-last.columns.items in
    let rows = c.args.rows.now in
    let less : n < vec_len rest = omega (arith, c.in-Some.ensures.len) in
    let few : n < length columns = omega arith in
    let column = c.index_mut.result.now in
    let same : (d : ColumnView) → c.index_mut.result.now ≡ get_or c.args.columns.now.items n d = λ d. c.index_mut.ensures.value ∙ get_or_default columns n column d few ∙ c.loop-last.invariant.same n d less in
    let here : (d : ColumnView) → IsMade c.append.new.self (get_or c.args.columns.now.items n d) (column_of rows n) =
    λ d. rw (c.new-values.ensures.rows, c.new-values.ensures.column) at (made_by c.append.new.self c.index_mut.result.now (get_or c.args.columns.now.items n d) (column_of c.new-values.result.rows.now c.new-values.result.k) (same d) c.append.ensures.values c.append.ensures.layout c.append.ensures.encoding) in
    let one : vec_len rest ≡ n + 1 = omega (arith, c.in-Some.ensures.len) in
    record {
      count = c.loop-last.invariant.count;
      few = omega (arith, c.in-Some.ensures.len);
      rest = rw (← c.len-k.ensures) (front_is c.args.prepared.items rest.items c.pop.new.self.items c.in-Some.last (vec_len rest) n c.loop-last.invariant.rest (omega arith) c.in-Some.ensures.items (omega arith));
      same = λ k d l. get_or-set_other columns n k c.append.new.self d (omega arith) ∙ c.loop-last.invariant.same k d (omega arith);
      made = rw (← c.len-k.ensures) (made_more rows columns c.args.columns.now.items n c.append.new.self few here (rw one at c.loop-last.invariant.made));
    }

pub returns-clause-made : goal.returns-clause-made
returns-clause-made c = λ k d low l. c.loop-last.invariant.made k d (omega (arith, c.in_default.ensures)) l
