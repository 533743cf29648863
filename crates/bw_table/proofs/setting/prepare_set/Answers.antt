use Rattle.std.proofs.Common.{◌<◌, arith, length, get_or, set, sym, vec_len, ◌∙◌}
use Rattle.std.proofs.lemmas.List.{get_or_default, get_or-set_same}
use Rattle.std.proofs.lemmas.List.Sums.{count_by-le-length}
use Rattle.bw_column.specs.Columns.{ColumnView, Keeps}
use Rattle.bw_table.specs.Halves.{AllKept}
use Rattle.bw_table.specs.Sets.{taken}
use Rattle.bw_table.proofs.Readied.{kept_set}
use Rattle.bw_table.proofs.Written.{counted, gathered_kept, kept_as_is}
use Rattle.bw_table.proofs.setting.prepare_set.Goals as goal

pub returns-in-Some-clause-kept : goal.returns-in-Some-clause-kept
returns-in-Some-clause-kept c = kept_as_is c.args.columns.now.items

pub returns-in-Some-clause-ready : goal.returns-in-Some-clause-ready
returns-in-Some-clause-ready c =
    let is = rw c.in-Some.is at c.copied_column.ensures.is in
    let there : c.in-Some.from < vec_len c.args.columns.now = rw is at c.requires.there in
    record {
      is = is;
      there = omega (arith, there, c.args.columns.now.ok.0);
      apart = rw c.in-Some.is at c.copied_column.ensures.apart;
      unset = rw c.in-Some.is at c.copied_column.ensures.unset;
      can = λ d. rw c.in-Some.is at c.copied_column.ensures.can d;
    }

pub make_ready-requires-clause-held : goal.make_ready-requires-clause-held
make_ready-requires-clause-held c = rw (c.in_ok-values.ensures.values, c.index_mut.ensures.value) (c.requires.held c.index_mut.result.now)

pub make_ready-requires-clause-count : goal.make_ready-requires-clause-count
make_ready-requires-clause-count c =
    let found = c.args.found.now in
    omega (arith, counted c.args.columns.now.items found c.args.to (taken found c.in_ok-values.values) c.in_ok-values.ensures.values, count_by-le-length (λ row. row) found.rows, c.requires.few)

pub make_ready-requires-clause-fits : goal.make_ready-requires-clause-fits
make_ready-requires-clause-fits c = rw c.index_mut.ensures.value (c.in_ok-values.ensures.fits c.index_mut.result.now)

pub returns-clause-ready : goal.returns-clause-ready
returns-clause-ready c =
    let columns = c.args.columns.now.items in
    let k = c.args.k in
    let found = c.args.found.now in
    let named : k < length columns = omega (arith, c.requires.named, c.args.columns.now.ok.0) in
    let x = c.make_ready.new.column in
    let keeps : (d : ColumnView) → Keeps x (get_or columns k d) = λ d. rw (get_or_default columns k d c.index_mut.result.now named, ← c.index_mut.ensures.value) c.make_ready.ensures.keeps in
    let kept : AllKept (set columns k x) columns = kept_set columns columns k x named keeps (kept_as_is columns) in
    let ready = c.in_ok-ready in
    record {
      values = ready.ensures.values ∙ c.in_ok-values.ensures.values ∙ sym (gathered_kept (set columns k x) columns kept found c.args.to);
      ready = λ d. rw (get_or-set_same columns k x d named) ready.ensures.prepared;
    }
