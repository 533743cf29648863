use Rattle.std.proofs.Common.{get_or, ℕ, ◌+◌, ◌<◌, ◌≡◌, ◌≤◌}
use Rattle.std.specs.Int.{bit_at}
use Rattle.std.specs.Prelude.{if◌then◌else◌}
use Rattle.bw_mask.specs.Masks.{bit_of}
use Rattle.bw_vertical.specs.Carries.{carried}
use Rattle.bw_vertical.specs.Planes.{code_by}
use Rattle.bw_vertical.proofs.shifting.shift_words.Given as goal

-- the planes of the b lowest bits are added, and those above them are as they were
abbrev pub invariant-loop-b : goal.invariant-loop-b
invariant-loop-b l = record {
  carry : (r : ℕ) → r < 64 → bit_at l.carry r ≡ carried (code_by l.own l.fn.words r) (if bit_of l.rows r then l.by else 0) l.b;
  done : (p r : ℕ) → p < l.b → r < 64 → bit_of (get_or l.words p 0) r ≡ bit_of (code_by l.own l.fn.words r + (if bit_of l.rows r then l.by else 0)) p;
  left : (p : ℕ) → l.b ≤ p → get_or l.words p 0 ≡ get_or l.fn.words p 0;
}
