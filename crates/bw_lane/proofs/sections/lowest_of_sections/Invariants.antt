use Rattle.std.proofs.Common.{◌≡◌}
use Rattle.bw_lane.specs.Sections.{lowest_bits}
use Rattle.bw_lane.proofs.sections.lowest_of_sections.Given as goal

abbrev pub invariant-loop-t : goal.invariant-loop-t
invariant-loop-t l = l.lowest ≡ lowest_bits l.width l._t
