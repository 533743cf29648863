use Rattle.std.proofs.Common.{arith, drop, of_z, rules, to_z, w32, w64, ◌*◌, ◌≡◌}
use Rattle.std.proofs.lemmas.Int.{to_z-of_z}
use Rattle.std.specs.Int.{bit_at}
use Rattle.byteorder.specs.Endian.{little_number}
use Rattle.bw_cells.specs.Distances.{distance_from}
use Rattle.bw_file.specs.Reading.{cell_by}
use Rattle.bw_file.proofs.Agree.{filled_more}
use Rattle.bw_file.proofs.distances.read_eight_distances.Goals as goal

pub rows-preserved : goal.rows-preserved
rows-preserved c =
    let inv = c.rows.invariant in
    let base = to_z w64 (of_z w64 c.args.base) in
    let word : to_z w32 (of_z w32 c.word_at.result) ≡ c.word_at.result = to_z-of_z w32 c.word_at.result (search rules) in
    record {
      count = search rules;
      each = filled_more (λ k x. x ≡ distance_from base (cell_by (bit_at c.args.present k) (little_number 4 (drop (4 * k) c.args.words.now)))) c.rows.out c.rows.j c.distance.result 0 (omega (arith, inv.count, c.rows-test.true)) inv.each
          (rw (word, c.word_at.ensures, c.has_bit.ensures) at c.distance.ensures);
    }
