use Rattle.std.proofs.Common.{ap, arith, bit_and, get_or, inl, inr, length-set, not, rules, ◌%◌, ◌&&◌, ◌*◌, ◌-◌, ◌/◌, ◌<◌, ◌^◌, ◌≡◌, ◌≢◌, ◌∙◌}
use Rattle.std.proofs.lemmas.Bool.{cases_lt}
use Rattle.bw_mask.specs.Masks.{bit_of, row_in}
use Rattle.bw_mask.proofs.Bits.{bit_of_andnot}
use Rattle.bw_file.proofs.WordRows.{row_elsewhere, row_here}
use Rattle.bw_file.proofs.seen.leave_out.Goals as goal

pub loop-j-preserved : goal.loop-j-preserved
loop-j-preserved c =
    let inv = c.loop-j.invariant in
    let j = c.loop-j.j in
    let rows = c.loop-j.rows in
    let plane = c.args.plane.now in
    let small : get_or plane j 0 < 2 ^ 64 = search rules in
    let word = bit_and (get_or rows j 0) (2 ^ 64 - 1 - get_or plane j 0) in
    record {
      long = length-set rows j word ∙ inv.long;
      done = λ r h.
          elim (cases_lt r (64 * j)) [
            | inl before ↦ let far : r / 64 ≢ j = λ e. omega (arith, e, before) in row_elsewhere rows j word r far ∙ inv.done r before
            | inr here ↦
                let is : r / 64 ≡ j = omega (arith, here, h) in
                row_here rows j word r (omega (arith, inv.long, c.loop-j-test.true)) is
                ∙ bit_of_andnot (get_or rows j 0) (get_or plane j 0) (r % 64) small (omega arith)
                ∙ ap (λ q. bit_of (get_or rows q 0) (r % 64) && not (bit_of (get_or plane q 0) (r % 64))) (let back : j ≡ r / 64 = omega (arith, is) in back)
                ∙ ap (λ b. b && not (row_in plane r)) (inv.rest r here)
          ];
      rest = λ r h. let far : r / 64 ≢ j = λ e. omega (arith, e, h) in row_elsewhere rows j word r far ∙ inv.rest r (omega (arith, h));
    }
