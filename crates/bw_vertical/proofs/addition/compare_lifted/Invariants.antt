use Rattle.std.proofs.Common.{min, ℕ, ◌*◌, ◌+◌, ◌<◌, ◌≡◌}
use Rattle.bw_mask.specs.Masks.{row_in}
use Rattle.bw_vertical.specs.Carries.{AreCompared}
use Rattle.bw_vertical.specs.Planes.{code_in}
use Rattle.bw_vertical.proofs.addition.compare_lifted.Given as goal

-- the sums and the codes are compared by the lowest bits of the groups of four so far
abbrev pub invariant-loop-g : goal.invariant-loop-g
invariant-loop-g g l = record {
  units : g.A.Source.units l.a ≡ g.A.Source.units l.fn.a;
  other_units : g.B.Source.units l.b ≡ g.B.Source.units l.fn.b;
  reads : g.A.Source.reads l.a ≡ g.A.Source.reads l.fn.a + min (4 * l.g) l.width;
  other_reads : g.B.Source.reads l.b ≡ g.B.Source.reads l.fn.b + min (4 * l.g) l.other;
  rows : (j : ℕ) → j < 256 → AreCompared (code_in l.width (g.A.Source.units l.fn.a) (256 * l.q + j)) l.lift (code_in l.other (g.B.Source.units l.fn.b) (256 * l.q + j)) (4 * l.g)
      (row_in l.low.carry j) (row_in l.low.lt j) (row_in l.low.differ j);
}
