use Rattle.std.proofs.Common.{ap, arith, drop, length, of_z, rules, slice_index, take, to_z, w32, w64, ◌*◌, ◌+◌, ◌-◌, ◌/◌, ◌≡◌, ◌∙◌}
use Rattle.std.proofs.lemmas.Int.{to_z-of_z}
use Rattle.std.proofs.lemmas.List.{length-drop, take_all}
use Rattle.std.specs.Int.{bit_at}
use Rattle.byteorder.specs.Endian.{little_number}
use Rattle.bw_cells.specs.Distances.{distance_from}
use Rattle.bw_file.specs.Reading.{cell_by, read_cell}
use Rattle.bw_file.proofs.Agree.{filled_more}
use Rattle.bw_file.proofs.Lent.{cell_of_eight, eight_more}
use Rattle.bw_file.proofs.distances.read_distances.Goals as goal

pub eights-preserved : goal.eights-preserved
eights-preserved c =
    let inv = c.eights.invariant in
    let present = c.args.present.now in
    let words = c.args.words.now in
    let at = c.args.at in
    let base = to_z w64 (of_z w64 c.args.base) in
    let q = c.eights.q in
    let start = 8 * q in
    let begin = 4 * (at + start) in
    let next : 8 * (q + 1) ≡ start + 8 = omega arith in
    let cut : take (length words - begin) (drop begin words) ≡ drop begin words = take_all (length words - begin) (drop begin words) (omega (arith, length-drop begin words)) in
    record {
      count = search rules;
      each = λ i before. eight_more (λ k x. x ≡ distance_from base (read_cell present words (at + k))) c.eights.out c.read_eight_distances.new.out 0 start _ (omega (arith, inv.count, c.eights-test.true)) c.read_eight_distances.ensures.count inv.each
          (λ j h. c.read_eight_distances.ensures.each j h ∙ ap (λ xs. distance_from base (cell_by (bit_at (slice_index present (at / 8 + q)) j) (little_number 4 (drop (4 * j) xs)))) cut ∙ ap (distance_from base) (cell_of_eight present words at q j c.requires.first h)) i (omega (arith, next));
    }

pub rest-init : goal.rest-init
rest-init c = record { count = c.eights.invariant.count; each = λ k h. c.eights.invariant.each k (omega (arith, c.eights-test.false)) }

pub rest-preserved : goal.rest-preserved
rest-preserved c =
    let inv = c.rest.invariant in
    let base = to_z w64 (of_z w64 c.args.base) in
    let word : to_z w32 (of_z w32 c.word_at.result) ≡ c.word_at.result = to_z-of_z w32 c.word_at.result (search rules) in
    record {
      count = search rules;
      each = filled_more (λ k x. x ≡ distance_from base (read_cell c.args.present.now c.args.words.now (c.args.at + k))) c.rest.out c.rest.k c.distance.result 0 (omega (arith, inv.count, c.rest-test.true)) inv.each
          (rw (word, c.word_at.ensures, c.has_cell-there.ensures) at c.distance.ensures);
    }
