use Rattle.std.proofs.Common.{[], get_or, vec_len, ℕ, ◌≡◌}
use Rattle.bw_byteslice.specs.Storing.{bytes_of}
use Rattle.bw_byteslice.proofs.storage.no_bytes.Given as goal

abbrev pub invariant-loop-i : goal.invariant-loop-i
invariant-loop-i l = record {
  count : vec_len l.slices ≡ l.i;
  none : (i : ℕ) → get_or (bytes_of l.slices.items) i [] ≡ [];
}
