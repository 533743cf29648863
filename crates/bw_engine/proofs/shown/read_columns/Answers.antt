use Rattle.std.proofs.Common.{[], ap, arith, inl, inr, length, length-set, slice_index, ◌+◌, ◌<◌, ◌∙◌}
use Rattle.std.proofs.lemmas.Bool.{cases_eq}
use Rattle.std.proofs.lemmas.List.{get_or-set_other, get_or-set_same}
use Rattle.bw_column.specs.Values.{value_at}
use Rattle.bw_table.proofs.Across.{column_at}
use Rattle.bw_engine.proofs.shown.read_columns.Goals as goal

pub loop-p-preserved : goal.loop-p-preserved
loop-p-preserved c =
    let runs = c.loop-p.runs in
    let p = c.loop-p.p in
    let run = c.read_column.new.run in
    let slots = c.args.table.now.slots in
    let place = slice_index c.args.places.now p in
    let there : p < length runs = omega (arith, c.loop-p.invariant.count, c.loop-p-test.true) in
    record {
      count = length-set runs p run ∙ c.loop-p.invariant.count;
      values = λ k i l h.
          elim (cases_eq k p) [
            | inl e ↦
                rw (e, get_or-set_same runs p run [] there)
                (c.read_column.ensures i h ∙ ap (λ values. value_at values (c.args.at + i)) c.column.ensures.values ∙ column_at slots place (c.args.at + i) (omega (arith, c.requires.inside, h)))
            | inr other ↦ rw (get_or-set_other runs p k run [] other) (c.loop-p.invariant.values k i (omega (arith, l, other)) h)
          ];
    }
