use Rattle.std.proofs.Common.{None, ap, arith, drop, get_or, is_some, length, map, of_z, rules, sym, take, to_z, w64, ◌+◌, ◌≡◌, ◌∙◌}
use Rattle.std.proofs.lemmas.Int.{to_z-of_z}
use Rattle.bw_cells.specs.Distances.{distance_from}
use Rattle.bw_file.specs.Reading.{read_cell}
use Rattle.bw_file.proofs.Lent.{length-cells_in}
use Rattle.bw_file.proofs.RunDistances.{distances_in, presence_in}
use Rattle.bw_file.proofs.word_column.WordColumnMeasured.distances.Goals as goal

pub read_distances-requires : goal.read_distances-requires
read_distances-requires c =
    let inside = c.self.inside in
    let inv = c.self.invariant in
    let rows : length c.args.self.now ≡ inside.rows = ap length (sym c.self.view_is) ∙ length-cells_in inside.rows inside.present.now inside.words.now in
    record {
      few = omega (arith, rows, inv.few, c.requires.inside);
      first = c.if-at-ne0.false;
      present = omega (arith, rows, inv.bits, c.requires.inside);
      words = omega (arith, rows, inv.numbers, c.requires.inside);
    }

pub bits_of_rows-requires-clause-there : goal.bits_of_rows-requires-clause-there
bits_of_rows-requires-clause-there c =
    let inside = c.self.inside in
    let rows : length c.args.self.now ≡ inside.rows = ap length (sym c.self.view_is) ∙ length-cells_in inside.rows inside.present.now inside.words.now in
    omega (arith, rows, c.self.invariant.bits, c.requires.inside, c.read_distances.ensures.count)

pub bits_of_rows-requires-clause-short : goal.bits_of_rows-requires-clause-short
bits_of_rows-requires-clause-short c =
    let inside = c.self.inside in
    let rows : length c.args.self.now ≡ inside.rows = ap length (sym c.self.view_is) ∙ length-cells_in inside.rows inside.present.now inside.words.now in
    omega (arith, rows, c.self.invariant.few, c.requires.inside)

pub returns-clause-distances : goal.returns-clause-distances
returns-clause-distances c =
    let inside = c.self.inside in
    let n = length c.args.out.now in
    let rows : length c.args.self.now ≡ inside.rows = ap length (sym c.self.view_is) ∙ length-cells_in inside.rows inside.present.now inside.words.now in
    let base : to_z w64 (of_z w64 c.args.base) ≡ c.args.base = to_z-of_z w64 c.args.base (search rules) in
    distances_in inside.rows c.args.at n inside.present.now inside.words.now (omega (arith, rows, c.requires.inside)) c.args.base c.read_distances.new.out c.read_distances.ensures.count
    (λ k h. c.read_distances.ensures.each k h ∙ ap (λ b. distance_from b (read_cell inside.present.now inside.words.now (c.args.at + k))) base)
    ∙ ap (λ xs. map (distance_from c.args.base) (take n (drop c.args.at xs))) c.self.view_is

pub returns-clause-present : goal.returns-clause-present
returns-clause-present c i =
    let inside = c.self.inside in
    let n = length c.args.out.now in
    let rows : length c.args.self.now ≡ inside.rows = ap length (sym c.self.view_is) ∙ length-cells_in inside.rows inside.present.now inside.words.now in
    presence_in inside.rows c.args.at n inside.present.now inside.words.now (omega (arith, rows, c.requires.inside)) c.bits_of_rows.result i (rw c.read_distances.ensures.count at (c.bits_of_rows.ensures i))
    ∙ ap (λ xs. is_some (get_or (take n (drop c.args.at xs)) i None)) c.self.view_is
