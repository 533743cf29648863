use Rattle.std.proofs.Common.{ap, arith, drop, length, length-drop, length-take, take, ◌++◌, ◌+◌, ◌∙◌, ◌≡◌, ◌≤◌}
use Rattle.bw_code.proofs.Lists.{part_fits, part_over}
use Rattle.bw_column.proofs.column.Column.extend_measured.Goals as goal

pub loop-at-preserved : goal.loop-at-preserved
loop-at-preserved g c =
    let i = c.loop-at.invariant in
    let cells = g.C.Cells.cells c.args.cells.now in
    let at = c.loop-at.at in
    let n = c.min-n.result in
    let inside : at + n ≤ length cells = omega (arith, c.min-n.ensures, c.len-in-loop-at.ensures, i.at) in
    let added : c.extend_part.new.self.values ≡ c.loop-at.self.values ++ take n (drop at cells) = c.extend_part.ensures.values in
    record {
      at = inside;
      values =
          ap (λ xs. xs ++ drop (at + n) cells) added
          ∙ part_over (c.args.self.now.values ++ cells) c.loop-at.self.values cells at n i.values;
      room = omega (arith, c.extend_part.ensures.room, i.room);
      layout = c.extend_part.ensures.layout ∙ i.layout;
      encoding = c.extend_part.ensures.encoding ∙ i.encoding;
    }

pub extend_part-requires-clause-room : goal.extend_part-requires-clause-room
extend_part-requires-clause-room g c =
    let i = c.loop-at.invariant in
    let cells = g.C.Cells.cells c.args.cells.now in
    let n = c.min-n.result in
    let here : length (take n (drop c.loop-at.at cells)) ≡ n = omega (arith, length-take n (drop c.loop-at.at cells), length-drop c.loop-at.at cells, c.min-n.ensures, c.len-in-loop-at.ensures, i.at) in
    omega (arith, here, part_fits c.loop-at.self.values (drop c.loop-at.at cells) c.args.self.now.values cells n i.values, c.requires.room, i.room)

pub extend_part-requires-clause-few : goal.extend_part-requires-clause-few
extend_part-requires-clause-few g c =
    let i = c.loop-at.invariant in
    let cells = g.C.Cells.cells c.args.cells.now in
    let n = c.min-n.result in
    let here : length (take n (drop c.loop-at.at cells)) ≡ n = omega (arith, length-take n (drop c.loop-at.at cells), length-drop c.loop-at.at cells, c.min-n.ensures, c.len-in-loop-at.ensures, i.at) in
    omega (arith, here, part_fits c.loop-at.self.values (drop c.loop-at.at cells) c.args.self.now.values cells n i.values, c.requires.few)
