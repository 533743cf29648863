use Rattle.std.proofs.Common.{arith, ap, drop, sym, take, ◌++◌, ◌∙◌}
use Rattle.std.proofs.Math.Seq.{take-add}
use Rattle.std.proofs.lemmas.List.{take_all}
use Rattle.bw_column.specs.Copies.{masked}
use Rattle.bw_column.proofs.Masked.{masked_len}
use Rattle.bw_column.proofs.column.Column.extend_masked.Goals as goal

pub loop-at-preserved : goal.loop-at-preserved
loop-at-preserved c =
    let i = c.loop-at.invariant in
    let places = c.args.places.now in
    let values = c.args.other.now.values in
    let at = c.loop-at.at in
    let n = c.min-n.result in
    record {
      at = omega (arith, c.min-n.ensures, c.len-in-loop-at.ensures.count, i.at);
      values = c.extend_masked_run.ensures.values ∙ ap (λ xs. xs ++ take n (drop at (masked places values))) i.values ∙ sym (take-add at n (masked places values));
      room = omega (arith, c.extend_masked_run.ensures.room, i.room);
      layout = c.extend_masked_run.ensures.layout ∙ i.layout;
      encoding = c.extend_masked_run.ensures.encoding ∙ i.encoding;
    }

pub returns-clause-values : goal.returns-clause-values
returns-clause-values c =
    let places = c.args.places.now in
    let values = c.args.other.now.values in
    c.loop-at.invariant.values ∙ take_all c.loop-at.at (masked places values) (omega (arith, c.loop-at-test.false, c.len.ensures.count, masked_len places values))
