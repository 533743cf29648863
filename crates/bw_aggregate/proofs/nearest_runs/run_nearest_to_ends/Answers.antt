use Rattle.std.proofs.Common.{arith, get_or, length, ltb, true, ◌≡◌, ◌∙◌}
use Rattle.std.proofs.lemmas.Bool.Decides.{nat_tests}
use Rattle.bw_mask.specs.Masks.{bit_of}
use Rattle.bw_mask.proofs.Bits.{bit_of_ones}
use Rattle.bw_aggregate.proofs.Nearest.{ends_all_in, ends_zero}
use Rattle.bw_aggregate.proofs.nearest_runs.run_nearest_to_ends.Goals as goal

pub returns-then-are_none : goal.returns-then-are_none
returns-then-are_none c = ends_zero _ (bit_of c.args.rows) (λ j. get_or c.args.codes.now j 0) c.args.top c.args.best (c.are_none.ensures.least c.if-are_none.true) (c.are_none.ensures.greatest c.if-are_none.true)

pub returns-then-rows-eq18446744073709551615 : goal.returns-then-rows-eq18446744073709551615
returns-then-rows-eq18446744073709551615 c =
    ends_all_in (length c.args.codes.now) (bit_of c.args.rows) (λ j. get_or c.args.codes.now j 0) c.args.top c.args.best c.nearest_of_all.result
    (λ j h. let ones = bit_of_ones 64 j (omega (arith, h, c.requires.few)) in let low : ltb j 64 ≡ true = grind (arith, nat_tests, h, c.requires.few) in
    rw c.if-rows-eq18446744073709551615.true (ones ∙ low)) c.nearest_of_all.ensures
