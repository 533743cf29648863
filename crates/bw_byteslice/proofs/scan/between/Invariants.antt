use Rattle.std.proofs.Common.{max, ◌*◌, ◌+◌, ◌≡◌, ◌≤◌}
use Rattle.bw_mask.specs.Masks.{bit_of}
use Rattle.bw_code.specs.Units.{agreement}
use Rattle.bw_code.proofs.Segments.{AreCompared, farthest}
use Rattle.bw_byteslice.specs.Slices.{number_in}
use Rattle.bw_byteslice.proofs.scan.between.Given as goal

-- the slices so far; a needed row was left after each
abbrev pub invariant-loop-i : goal.invariant-loop-i
invariant-loop-i g l = record {
  units : g.S.Source.units l.source ≡ g.S.Source.units l.fn.source;
  reads : g.S.Source.reads l.source ≡ g.S.Source.reads l.fn.source + l.i;
  left : l.i ≤ farthest 32 (bit_of l.need) (λ r. max (agreement 256 l.m (number_in l.m (g.S.Source.units l.fn.source) (32 * l.q + r)) l.low) (agreement 256 l.m (number_in l.m (g.S.Source.units l.fn.source) (32 * l.q + r)) l.high));
  lo : AreCompared 32 256 l.m (bit_of l.need) (λ r. number_in l.m (g.S.Source.units l.fn.source) (32 * l.q + r)) l.low (bit_of l.lt_lo) (bit_of l.eq_lo) l.i;
  hi : AreCompared 32 256 l.m (bit_of l.need) (λ r. number_in l.m (g.S.Source.units l.fn.source) (32 * l.q + r)) l.high (bit_of l.lt_hi) (bit_of l.eq_hi) l.i;
}
