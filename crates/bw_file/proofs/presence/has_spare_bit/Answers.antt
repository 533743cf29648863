use Rattle.std.proofs.Common.{arith, slice_index, ◌%◌, ◌/◌, ◌^◌, ◌≡◌}
use Rattle.std.proofs.lemmas.Bool.Decides.{nat_tests}
use Rattle.bw_file.proofs.Spare.{none_spare, one_spare}
use Rattle.bw_file.proofs.presence.has_spare_bit.Goals as goal

pub returns-else-rows-eq0-clause-no : goal.returns-else-rows-eq0-clause-no
returns-else-rows-eq0-clause-no c e = none_spare c.args.present.now c.args.rows c.requires.long (grind (arith, nat_tests))

pub returns-else-rows-eq0-clause-yes : goal.returns-else-rows-eq0-clause-yes
returns-else-rows-eq0-clause-yes c e cells long same =
    let byte : slice_index c.args.present.now (c.args.rows / 8) / 2 ^ (c.args.rows % 8) ≡ 0 = one_spare c.args.present.now cells c.args.rows long c.if-rows-eq0.false same in
    grind (arith, nat_tests)
