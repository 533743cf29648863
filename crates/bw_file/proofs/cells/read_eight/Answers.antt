use Rattle.std.proofs.Common.{FitsSigned, None, Some, ap, arith, cond, drop, rules, ◌*◌, ◌==◌, ◌≡◌, ◌∙◌}
use Rattle.std.proofs.lemmas.Int.{to_z-of_z}
use Rattle.std.specs.Int.{bit_at, w32}
use Rattle.byteorder.specs.Endian.{little_number}
use Rattle.bw_file.specs.Reading.{cell_by}
use Rattle.bw_file.proofs.Agree.{filled_more}
use Rattle.bw_file.proofs.cells.read_eight.Goals as goal

pub rows-preserved : goal.rows-preserved
rows-preserved c =
    let inv = c.rows.invariant in
    let present = c.args.present in
    let words = c.args.words.now in
    let fits : FitsSigned w32 c.word_at.result = search rules in
    record {
      count = search rules;
      each = filled_more (λ k x. x ≡ cell_by (bit_at present k) (little_number 4 (drop (4 * k) words))) c.rows.out c.rows.j c.cell_by.result None (omega (arith, inv.count, c.rows-test.true)) inv.each
          (c.cell_by.ensures ∙ ap (λ z. cond (bit_at present c.rows.j == 1) (Some z) None) (to_z-of_z w32 c.word_at.result fits ∙ c.word_at.ensures));
    }
