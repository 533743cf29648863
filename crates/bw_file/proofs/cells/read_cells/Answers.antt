use Rattle.std.proofs.Common.{None, ap, arith, drop, length, rules, slice_index, take, ◌%◌, ◌*◌, ◌+◌, ◌-◌, ◌/◌, ◌≡◌, ◌∙◌}
use Rattle.std.proofs.lemmas.List.{length-drop, take_all}
use Rattle.std.specs.Int.{bit_at}
use Rattle.byteorder.specs.Endian.{little_number}
use Rattle.bw_file.specs.Reading.{cell_by, read_cell}
use Rattle.bw_file.proofs.Agree.{filled_more}
use Rattle.bw_file.proofs.Lent.{cell_of_eight, eight_more}
use Rattle.bw_file.proofs.cells.read_cells.Goals as goal

pub eights-preserved : goal.eights-preserved
eights-preserved c =
    let inv = c.eights.invariant in
    let present = c.args.present.now in
    let words = c.args.words.now in
    let at = c.args.at in
    let q = c.eights.q in
    let start = 8 * q in
    let begin = 4 * (at + start) in
    let next : 8 * (q + 1) ≡ start + 8 = omega arith in
    let cut : take (length words - begin) (drop begin words) ≡ drop begin words = take_all (length words - begin) (drop begin words) (omega (arith, length-drop begin words)) in
    let whole : at % 8 ≡ 0 = c.whole_eights-eights.ensures.first (omega (arith, c.eights-test.true)) in
    record {
      count = search rules;
      each = λ i before. (eight_more (λ k x. x ≡ read_cell present words (at + k)) c.eights.out c.read_eight.new.out None start _ (omega (arith, inv.count, c.whole_eights-eights.ensures.within, c.eights-test.true)) c.read_eight.ensures.count inv.each
          (λ j h. c.read_eight.ensures.each j h ∙ ap (λ xs. cell_by (bit_at (slice_index present (at / 8 + q)) j) (little_number 4 (drop (4 * j) xs))) cut ∙ cell_of_eight present words at q j whole h)) i (omega (arith, next));
    }

pub rest-init : goal.rest-init
rest-init c = record { count = c.eights.invariant.count; each = λ k h. c.eights.invariant.each k (omega (arith, c.eights-test.false)) }

pub rest-preserved : goal.rest-preserved
rest-preserved c =
    let inv = c.rest.invariant in
    record {
      count = search rules;
      each = filled_more (λ k x. x ≡ read_cell c.args.present.now c.args.words.now (c.args.at + k)) c.rest.out c.rest.k c.read_cell.result None (omega (arith, inv.count, c.rest-test.true)) inv.each c.read_cell.ensures;
    }
