use Rattle.std.proofs.Common.{pos, ℕ, ◌&&◌, ◌*◌, ◌+◌, ◌+ℤ◌, ◌<◌, ◌≡◌}
use Rattle.bw_mask.specs.Masks.{row_at, SameShape}
use Rattle.bw_code.specs.Tests.{int_compares}
use Rattle.bw_vertical.specs.Planes.{code_in}
use Rattle.bw_vertical.proofs.addition.add_from.Given as goal

-- the segments so far
abbrev pub invariant-loop-q : goal.invariant-loop-q
invariant-loop-q g l = record {
  units : g.A.Source.units l.a ≡ g.A.Source.units l.fn.a;
  other_units : g.B.Source.units l.b ≡ g.B.Source.units l.fn.b;
  reads : g.A.Source.reads l.a ≡ g.A.Source.reads l.fn.a + l.q * l.width;
  other_reads : g.B.Source.reads l.b ≡ g.B.Source.reads l.fn.b + l.q * l.other;
  shape : SameShape l.out l.fn.out;
  rows : (j : ℕ) → j < 256 * l.q → row_at l.out j ≡ (row_at l.need j
      && int_compares l.op (l.fn.left.base +ℤ pos (code_in l.width (g.A.Source.units l.fn.a) j)) (l.fn.right.base +ℤ pos (code_in l.other (g.B.Source.units l.fn.b) j)));
}
