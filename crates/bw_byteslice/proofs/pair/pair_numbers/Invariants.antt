use Rattle.std.proofs.Common.{ℕ, ◌&&◌, ◌*◌, ◌+◌, ◌<◌, ◌≡◌, ◌≤◌}
use Rattle.bw_mask.specs.Masks.{row_at, SameShape}
use Rattle.bw_code.specs.Tests.{code_compares}
use Rattle.bw_code.specs.Units.{side_units}
use Rattle.bw_byteslice.specs.Slices.{by_bytes, number_in}
use Rattle.bw_byteslice.proofs.pair.pair_numbers.Given as goal

-- the words so far, of two segments each
abbrev pub invariant-loop-w : goal.invariant-loop-w
invariant-loop-w g l = record {
  units : g.A.Source.units l.a ≡ g.A.Source.units l.fn.a;
  other_units : g.B.Source.units l.b ≡ g.B.Source.units l.fn.b;
  reads : g.A.Source.reads l.a ≡ g.A.Source.reads l.fn.a + side_units (by_bytes l.m) (row_at l.need) (number_in l.m (g.A.Source.units l.fn.a)) (number_in l.m (g.B.Source.units l.fn.b)) (2 * l.w);
  other_reads : g.B.Source.reads l.b ≡ g.B.Source.reads l.fn.b + side_units (by_bytes l.m) (row_at l.need) (number_in l.m (g.A.Source.units l.fn.a)) (number_in l.m (g.B.Source.units l.fn.b)) (2 * l.w);
  most : g.A.Source.reads l.a ≤ g.A.Source.reads l.fn.a + 16 * l.w;
  other_most : g.B.Source.reads l.b ≤ g.B.Source.reads l.fn.b + 16 * l.w;
  shape : SameShape l.out l.fn.out;
  rows : (j : ℕ) → j < 64 * l.w → row_at l.out j ≡ (row_at l.need j && code_compares l.op (number_in l.m (g.A.Source.units l.fn.a) j) (number_in l.m (g.B.Source.units l.fn.b) j));
}
