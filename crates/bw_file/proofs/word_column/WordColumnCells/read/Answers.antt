use Rattle.std.proofs.Common.{ap, arith, drop, length, sym, take, ◌≡◌, ◌∙◌}
use Rattle.bw_file.proofs.Lent.{length-cells_in, run_in}
use Rattle.bw_file.proofs.word_column.WordColumnCells.read.Goals as goal

pub read_cells-requires : goal.read_cells-requires
read_cells-requires c =
    let inside = c.self.inside in
    let inv = c.self.invariant in
    let rows : length c.args.self.now ≡ inside.rows = ap length (sym c.self.view_is) ∙ length-cells_in inside.rows inside.present.now inside.words.now in
    record {
      few = omega (arith, rows, inv.few, c.requires);
      present = omega (arith, rows, inv.bits, c.requires);
      words = omega (arith, rows, inv.numbers, c.requires);
    }

pub returns : goal.returns
returns c =
    let inside = c.self.inside in
    let n = length c.args.out.now in
    let rows : length c.args.self.now ≡ inside.rows = ap length (sym c.self.view_is) ∙ length-cells_in inside.rows inside.present.now inside.words.now in
    run_in c.read_cells.new.out inside.rows c.args.at n inside.present.now inside.words.now (omega (arith, rows, c.requires)) c.read_cells.ensures.count c.read_cells.ensures.each
    ∙ ap (λ xs. take n (drop c.args.at xs)) c.self.view_is
