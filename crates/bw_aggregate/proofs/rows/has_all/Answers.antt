use Rattle.std.proofs.Common.{arith, ◌≡◌}
use Rattle.std.proofs.lemmas.Bool.Decides.{nat_tests}
use Rattle.bw_mask.specs.Masks.{row_in}
use Rattle.bw_aggregate.specs.Marks.{marked}
use Rattle.bw_aggregate.proofs.Marks.{all_marked}
use Rattle.bw_aggregate.proofs.rows.has_all.Goals as goal

pub returns : goal.returns
returns c is j h =
    let all : marked 256 (row_in c.args.rows.now) ≡ 256 = let counted = c.count_rows.ensures.is in grind (arith, nat_tests, is, counted) in
    all_marked 256 (row_in c.args.rows.now) all j h
