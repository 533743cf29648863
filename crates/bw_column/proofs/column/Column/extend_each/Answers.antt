use Rattle.std.proofs.Common.{ap, arith, drop, length, ◌++◌, ◌+◌, ◌∙◌, ◌≤◌}
use Rattle.bw_code.proofs.Lists.{front_is, part_fits, part_over}
use Rattle.bw_column.proofs.column.Column.extend_each.Goals as goal

pub extend_block-requires-clause-room : goal.extend_block-requires-clause-room
extend_block-requires-clause-room g c =
    let i = c.loop-at.invariant in
    let cells = g.C.Cells.cells c.args.cells.now in
    let run = front_is c.loop-at.run c.read.new.out cells c.loop-at.at c.min-n.result (omega (arith, c.min-n.ensures, c.min-n.array_long)) (omega (arith, c.min-n.ensures, c.len-in-loop-at.ensures, i.at)) c.read.ensures in
    rw run (omega (arith, part_fits c.loop-at.self.values (drop c.loop-at.at cells) c.args.self.now.values cells c.min-n.result i.values, c.requires.room, i.room))

pub extend_block-requires-clause-few : goal.extend_block-requires-clause-few
extend_block-requires-clause-few g c =
    let i = c.loop-at.invariant in
    let cells = g.C.Cells.cells c.args.cells.now in
    let run = front_is c.loop-at.run c.read.new.out cells c.loop-at.at c.min-n.result (omega (arith, c.min-n.ensures, c.min-n.array_long)) (omega (arith, c.min-n.ensures, c.len-in-loop-at.ensures, i.at)) c.read.ensures in
    rw run (omega (arith, part_fits c.loop-at.self.values (drop c.loop-at.at cells) c.args.self.now.values cells c.min-n.result i.values, c.requires.few))

pub loop-at-preserved : goal.loop-at-preserved
loop-at-preserved g c =
    let i = c.loop-at.invariant in
    let cells = g.C.Cells.cells c.args.cells.now in
    let n = c.min-n.result in
    let inside : c.loop-at.at + n ≤ length cells = omega (arith, c.min-n.ensures, c.len-in-loop-at.ensures, i.at) in
    let run = front_is c.loop-at.run c.read.new.out cells c.loop-at.at n (omega (arith, c.min-n.ensures, c.min-n.array_long)) inside c.read.ensures in
    record {
      at = inside;
      values =
          ap (λ xs. xs ++ drop (c.loop-at.at + n) cells) (c.extend_block.ensures.values ∙ ap (λ ys. c.loop-at.self.values ++ ys) run)
          ∙ part_over (c.args.self.now.values ++ cells) c.loop-at.self.values cells c.loop-at.at n i.values;
      room = omega (arith, c.extend_block.ensures.room, i.room);
      layout = c.extend_block.ensures.layout ∙ i.layout;
      encoding = c.extend_block.ensures.encoding ∙ i.encoding;
    }
