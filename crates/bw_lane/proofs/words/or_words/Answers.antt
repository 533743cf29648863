use Rattle.std.proofs.Common.{length, bit_or, ◌+◌, ◌≡◌, ◌≤◌, arith}
use Rattle.bw_lane.proofs.Fours.{each_of, four_of, stored_above, stored_below, stored_len}
use Rattle.bw_lane.proofs.words.or_words.Goals as goal

pub fours-preserved : goal.fours-preserved
fours-preserved c =
    let xs = c.fours.a in
    let ys = c.args.b.now in
    let i = c.fours.i in
    let old = c.args.a.now in
    let le : i + 4 ≤ length xs = omega arith in
    let same : length xs ≡ length ys = omega arith in
    let four = four_of xs ys i le same bit_or in
    let each = each_of xs ys i le same bit_or in
    record {
      inside = omega (arith, stored_len bit_or xs ys old _ i four each);
      before = stored_below bit_or xs ys old _ i four each le c.fours.invariant.before c.fours.invariant.rest;
      rest = stored_above bit_or xs ys old _ i four each c.fours.invariant.rest;
    }
