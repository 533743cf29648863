use Rattle.std.proofs.Common.{◌*◌}
use Rattle.bw_mask.specs.Masks.{bit_of, SameShape}
use Rattle.bw_horizontal.specs.Words.{code_in, segment_rows}
use Rattle.bw_horizontal.specs.Gathering.{AreGathered}
use Rattle.bw_horizontal.proofs.planes.plane.Given as goal

-- the segments so far
abbrev pub invariant-loop-q : goal.invariant-loop-q
invariant-loop-q l = record {
  shape : SameShape l.out l.fn.out;
  rows : AreGathered l.out (segment_rows l.width * l.q) l.rest (λ r. bit_of (code_in l.width l.words r) l.i);
}
