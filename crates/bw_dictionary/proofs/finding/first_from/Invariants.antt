use Rattle.std.proofs.Common.{get_or, length, pos, ◌-◌, ◌<◌, ◌≤◌, ◌≤ℤ◌}
use Rattle.bw_dictionary.specs.Finding.{AreBelow}
use Rattle.bw_dictionary.proofs.finding.first_from.Given as goal

-- what is before the low end is below the integer
abbrev pub invariant-gallop : goal.invariant-gallop
invariant-gallop l = record {
  start : l.at ≤ l.high;
  order : l.low ≤ l.high;
  inside : l.high ≤ length l.entries;
  before : AreBelow l.entries l.x l.low;
}

abbrev pub decreases-gallop : goal.decreases-gallop
decreases-gallop l = length l.entries - l.high

-- and what is from the high end on is not
abbrev pub invariant-bisect : goal.invariant-bisect
invariant-bisect l = record {
  order : l.low ≤ l.high;
  inside : l.high ≤ length l.entries;
  before : AreBelow l.entries l.x l.low;
  from : l.high < length l.entries → l.x ≤ℤ get_or l.entries l.high (pos 0);
}

abbrev pub decreases-bisect : goal.decreases-bisect
decreases-bisect l = l.high - l.low
