use Rattle.std.proofs.Common.{ℕ, ◌*◌, ◌-◌, ◌<◌, ◌≡◌}
use Rattle.bw_mask.specs.Masks.{SameShape, row_at}
use Rattle.bw_vertical.specs.Storage.{is_set, lists}
use Rattle.bw_vertical.proofs.codes.put_plane.Given as goal

-- the segments so far
abbrev pub invariant-loop-q : goal.invariant-loop-q
invariant-loop-q l = record {
  shape : SameShape l.out l.fn.out;
  rows : (j : ℕ) → j < 256 * l.q → j < l.len → row_at l.out j ≡ is_set l.k (lists l.groups) (l.k - 1 - l.i) j;
}
