use Rattle.std.proofs.Common.{arith, length, to_z, of_z, w64, ◌+◌, ◌-◌, ◌/◌, ◌<◌}
use Rattle.std.proofs.lemmas.Int.{ints}
use Rattle.bw_dictionary.proofs.Below.{below_to}
use Rattle.bw_dictionary.proofs.finding.first_from.Goals as goal

pub gallop-preserved : goal.gallop-preserved
gallop-preserved c =
    let i = c.gallop.invariant in
    let inside : c.gallop.high < length c.args.entries.now = omega (arith, c.gallop-test.true) in
    record {
      start = omega (arith, c.min-high.ensures, inside, i.start);
      order = omega (arith, c.min-high.ensures, inside, i.start);
      inside = omega (arith, c.min-high.ensures);
      before = below_to c.args.entries.now (to_z w64 (of_z w64 c.args.x)) c.requires.entries c.gallop.high inside (omega (arith, ints, c.if-entries-high.true));
    }

pub bisect-preserved-then-entries-middle : goal.bisect-preserved-then-entries-middle
bisect-preserved-then-entries-middle c =
    let i = c.bisect.invariant in
    let middle = c.bisect.low + (c.bisect.high - c.bisect.low) / 2 in
    let inside : middle < c.bisect.high = omega (arith, c.bisect-test.true) in
    record {
      order = omega (arith, inside);
      inside = i.inside;
      before = below_to c.args.entries.now (to_z w64 (of_z w64 c.args.x)) c.requires.entries middle (omega (arith, inside, i.inside)) (omega (arith, ints, c.if-entries-middle.true));
      from = i.from;
    }
