use Rattle.std.proofs.Common.{get_or, ℕ, ◌%◌, ◌*◌, ◌+◌, ◌<◌, ◌≡◌}
use Rattle.bw_mask.specs.Masks.{bit_of}
use Rattle.bw_byteslice.proofs.runs.spread.Given as goal

-- the bytes of the word's bytes before this one
abbrev pub invariant-loop-k : goal.invariant-loop-k
invariant-loop-k l = (r : ℕ) → r < 8 * l.k → bit_of (get_or l.bytes r 0) (r % 8) ≡ bit_of l.rows r

-- and those of the bits before this one
abbrev pub invariant-loop-b : goal.invariant-loop-b
invariant-loop-b l = (r : ℕ) → r < 8 * l.k + l.b → bit_of (get_or l.bytes r 0) (r % 8) ≡ bit_of l.rows r
