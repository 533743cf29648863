use Rattle.std.proofs.Common.{max, ◌*◌, ◌+◌, ◌/◌, ◌≡◌, ◌≤◌}
use Rattle.bw_mask.specs.Masks.{row_in}
use Rattle.bw_code.specs.Units.{agreement}
use Rattle.bw_code.proofs.Segments.{AreCompared, farthest}
use Rattle.bw_vertical.specs.Planes.{code_in}
use Rattle.bw_vertical.proofs.scan.between.Given as goal

-- the groups of four planes so far, each of which left a needed row
abbrev pub invariant-loop-g : goal.invariant-loop-g
invariant-loop-g g l = record {
  units : g.S.Source.units l.source ≡ g.S.Source.units l.fn.source;
  reads : g.S.Source.reads l.source ≡ g.S.Source.reads l.fn.source + 4 * l.g;
  left : 4 * l.g ≤ farthest 256 (row_in l.need) (λ j. max (agreement 2 l.k (code_in l.k (g.S.Source.units l.fn.source) (256 * l.q + j)) l.low) (agreement 2 l.k (code_in l.k (g.S.Source.units l.fn.source) (256 * l.q + j)) l.high));
  lo : AreCompared 256 2 l.k (row_in l.need) (λ j. code_in l.k (g.S.Source.units l.fn.source) (256 * l.q + j)) l.low (row_in l.lo.lt) (row_in l.lo.eq) (4 * l.g);
  hi : AreCompared 256 2 l.k (row_in l.need) (λ j. code_in l.k (g.S.Source.units l.fn.source) (256 * l.q + j)) l.high (row_in l.hi.lt) (row_in l.hi.eq) (4 * l.g);
}

-- the planes so far, those of the last group, too
abbrev pub invariant-loop-i : goal.invariant-loop-i
invariant-loop-i g l = record {
  units : g.S.Source.units l.source ≡ g.S.Source.units l.fn.source;
  reads : g.S.Source.reads l.source ≡ g.S.Source.reads l.fn.source + l.i;
  left : 4 * (l.k / 4) ≤ farthest 256 (row_in l.need) (λ j. max (agreement 2 l.k (code_in l.k (g.S.Source.units l.fn.source) (256 * l.q + j)) l.low) (agreement 2 l.k (code_in l.k (g.S.Source.units l.fn.source) (256 * l.q + j)) l.high));
  lo : AreCompared 256 2 l.k (row_in l.need) (λ j. code_in l.k (g.S.Source.units l.fn.source) (256 * l.q + j)) l.low (row_in l.lo.lt) (row_in l.lo.eq) l.i;
  hi : AreCompared 256 2 l.k (row_in l.need) (λ j. code_in l.k (g.S.Source.units l.fn.source) (256 * l.q + j)) l.high (row_in l.hi.lt) (row_in l.hi.eq) l.i;
}
