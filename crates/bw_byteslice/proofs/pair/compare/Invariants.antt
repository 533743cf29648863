use Rattle.std.proofs.Common.{◌*◌, ◌+◌, ◌≡◌, ◌≤◌}
use Rattle.bw_mask.specs.Masks.{bit_of}
use Rattle.bw_code.specs.Units.{agreement}
use Rattle.bw_code.proofs.Segments.{AreSidesCompared, farthest}
use Rattle.bw_byteslice.specs.Slices.{number_in}
use Rattle.bw_byteslice.proofs.pair.compare.Given as goal

-- the slices so far; a needed row was left after each
abbrev pub invariant-loop-i : goal.invariant-loop-i
invariant-loop-i g l = record {
  units : g.A.Source.units l.a ≡ g.A.Source.units l.fn.a;
  other_units : g.B.Source.units l.b ≡ g.B.Source.units l.fn.b;
  reads : g.A.Source.reads l.a ≡ g.A.Source.reads l.fn.a + l.i;
  other_reads : g.B.Source.reads l.b ≡ g.B.Source.reads l.fn.b + l.i;
  left : l.i ≤ farthest 32 (bit_of l.need) (λ r. agreement 256 l.m (number_in l.m (g.A.Source.units l.fn.a) (32 * l.q + r)) (number_in l.m (g.B.Source.units l.fn.b) (32 * l.q + r)));
  rows : AreSidesCompared 32 256 l.m (bit_of l.need) (λ r. number_in l.m (g.A.Source.units l.fn.a) (32 * l.q + r)) (λ r. number_in l.m (g.B.Source.units l.fn.b) (32 * l.q + r)) (bit_of l.lt) (bit_of l.eq) l.i;
}
