use Rattle.std.proofs.Common.{None, get_or, ℕ, ◌<◌, ◌≡◌}
use Rattle.bw_column.specs.Codes.{IsCoded, code_for}
use Rattle.bw_column.proofs.codes.encode_each.Given as goal

abbrev pub invariant-loop-i : goal.invariant-loop-i
invariant-loop-i l = record {
  held : (k : ℕ) → k < l.i → IsCoded l.encoding (get_or l.values k None);
  codes : (k : ℕ) → k < l.i → get_or l.codes k 0 ≡ code_for l.encoding (get_or l.values k None);
}
