use Rattle.std.proofs.Common.{[], slice_index_or, vec_len, ℕ, ◌≡◌}
use Rattle.bw_vertical.specs.Storage.{lists}
use Rattle.bw_vertical.proofs.growing.empty_groups.Given as goal

abbrev pub invariant-loop-g : goal.invariant-loop-g
invariant-loop-g l = (vec_len l.groups ≡ l._g) × ((g : ℕ) → slice_index_or (lists l.groups.items) g [] ≡ [])
