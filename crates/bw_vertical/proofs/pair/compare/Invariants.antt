use Rattle.std.proofs.Common.{◌*◌, ◌+◌, ◌/◌, ◌≡◌, ◌≤◌}
use Rattle.bw_mask.specs.Masks.{row_in}
use Rattle.bw_code.specs.Units.{agreement}
use Rattle.bw_code.proofs.Segments.{AreSidesCompared, farthest}
use Rattle.bw_vertical.specs.Planes.{code_in}
use Rattle.bw_vertical.proofs.pair.compare.Given as goal

-- the groups of four planes so far, each of which left a needed row
abbrev pub invariant-loop-g : goal.invariant-loop-g
invariant-loop-g g l = record {
  units : g.A.Source.units l.a ≡ g.A.Source.units l.fn.a;
  other_units : g.B.Source.units l.b ≡ g.B.Source.units l.fn.b;
  reads : g.A.Source.reads l.a ≡ g.A.Source.reads l.fn.a + 4 * l.g;
  other_reads : g.B.Source.reads l.b ≡ g.B.Source.reads l.fn.b + 4 * l.g;
  left : 4 * l.g ≤ farthest 256 (row_in l.need) (λ j. agreement 2 l.k (code_in l.k (g.A.Source.units l.fn.a) (256 * l.q + j)) (code_in l.k (g.B.Source.units l.fn.b) (256 * l.q + j)));
  rows : AreSidesCompared 256 2 l.k (row_in l.need) (λ j. code_in l.k (g.A.Source.units l.fn.a) (256 * l.q + j)) (λ j. code_in l.k (g.B.Source.units l.fn.b) (256 * l.q + j)) (row_in l.lt) (row_in l.eq) (4 * l.g);
}

-- the planes so far, those of the last group, too
abbrev pub invariant-loop-i : goal.invariant-loop-i
invariant-loop-i g l = record {
  units : g.A.Source.units l.a ≡ g.A.Source.units l.fn.a;
  other_units : g.B.Source.units l.b ≡ g.B.Source.units l.fn.b;
  reads : g.A.Source.reads l.a ≡ g.A.Source.reads l.fn.a + l.i;
  other_reads : g.B.Source.reads l.b ≡ g.B.Source.reads l.fn.b + l.i;
  left : 4 * (l.k / 4) ≤ farthest 256 (row_in l.need) (λ j. agreement 2 l.k (code_in l.k (g.A.Source.units l.fn.a) (256 * l.q + j)) (code_in l.k (g.B.Source.units l.fn.b) (256 * l.q + j)));
  rows : AreSidesCompared 256 2 l.k (row_in l.need) (λ j. code_in l.k (g.A.Source.units l.fn.a) (256 * l.q + j)) (λ j. code_in l.k (g.B.Source.units l.fn.b) (256 * l.q + j)) (row_in l.lt) (row_in l.eq) l.i;
}
