use Rattle.std.proofs.Common.{ap, append_assoc, arith, drop, length, length-append, length-drop, length-take, sym, take, ◌++◌, ◌+◌, ◌∙◌, ◌≡◌}
use Rattle.std.proofs.Math.Seq.{take-add}
use Rattle.std.proofs.lemmas.List.{drop-drop}
use Rattle.bw_column.proofs.column.Column.extend_runs.Goals as goal

pub loop-done-preserved : goal.loop-done-preserved
loop-done-preserved g c =
    let i = c.loop-done.invariant in
    let cells = g.C.Cells.cells c.args.cells.now in
    let at = c.args.at in
    let rest = drop at cells in
    let done = c.loop-done.done in
    let m = c.min-count.result in
    let old = c.args.self.now.values in
    let long : length (take m c.loop-done.list) ≡ m = omega (arith, c.min-count.ensures, i.long, length-take m c.loop-done.list) in
    let added : c.extend_distances.new.self.values ≡ c.loop-done.self.values ++ take (length (take m c.loop-done.list)) (drop (at + done) cells) = c.extend_distances.ensures.values in
    record {
      done = omega (arith, c.min-count.ensures, i.done);
      values =
          added
          ∙ ap (λ k. c.loop-done.self.values ++ take k (drop (at + done) cells)) long
          ∙ ap (λ xs. xs ++ take m (drop (at + done) cells)) i.values
          ∙ append_assoc old (take done rest) (take m (drop (at + done) cells))
          ∙ ap (λ xs. old ++ (take done rest ++ take m xs)) (sym (drop-drop done at cells))
          ∙ ap (λ xs. old ++ xs) (sym (take-add done m rest));
      room = omega (arith, c.extend_distances.ensures.room, i.room);
      layout = c.extend_distances.ensures.layout ∙ i.layout;
      encoding = c.extend_distances.ensures.encoding ∙ i.encoding;
      long = omega (arith, length-append c.extend_distances.new.codes (drop m c.loop-done.list), length-drop m c.loop-done.list, c.extend_distances.auto.codes, long, c.min-count.ensures, i.long);
    }

pub returns-clause-values : goal.returns-clause-values
returns-clause-values g c =
    let i = c.loop-done.invariant in
    let all : c.loop-done.done ≡ c.args.n = omega (arith, i.done, c.loop-done-test.false) in
    i.values ∙ ap (λ k. c.args.self.now.values ++ take k (drop c.args.at (g.C.Cells.cells c.args.cells.now))) all
