use Rattle.std.proofs.Common.{ℕ, ◌&&◌, ◌*◌, ◌+◌, ◌<◌, ◌≡◌, ◌≤◌}
use Rattle.bw_mask.specs.Masks.{row_at, SameShape}
use Rattle.bw_code.specs.Tests.{meets}
use Rattle.bw_code.specs.Units.{scan_units}
use Rattle.bw_byteslice.specs.Slices.{by_bytes, number_in}
use Rattle.bw_byteslice.proofs.scan.scan_numbers.Given as goal

-- the words so far, of two segments each
abbrev pub invariant-loop-w : goal.invariant-loop-w
invariant-loop-w g l = record {
  units : g.S.Source.units l.source ≡ g.S.Source.units l.fn.source;
  reads : g.S.Source.reads l.source ≡ g.S.Source.reads l.fn.source + scan_units (by_bytes l.m) l.test (row_at l.need) (number_in l.m (g.S.Source.units l.fn.source)) (2 * l.w);
  most : g.S.Source.reads l.source ≤ g.S.Source.reads l.fn.source + 16 * l.w;
  shape : SameShape l.out l.fn.out;
  rows : (j : ℕ) → j < 64 * l.w → row_at l.out j ≡ (row_at l.need j && meets l.test (number_in l.m (g.S.Source.units l.fn.source) j));
}
