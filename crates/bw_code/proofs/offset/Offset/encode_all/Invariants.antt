use Rattle.std.proofs.Common.{◌≡◌, ℕ, ◌<◌, length, get_or, pos, true, false}
use Rattle.bw_code.specs.Encodings.{IsWithin, distance}
use Rattle.bw_code.proofs.offset.Offset.encode_all.Given as goal

abbrev pub invariant-loop-i : goal.invariant-loop-i
invariant-loop-i l = record {
  held : l.all ≡ true → (k : ℕ) → k < l.i → IsWithin l.self (get_or l.values k (pos 0));
  missed : l.all ≡ false → (k : ℕ) × (k < length l.values) × ¬ IsWithin l.self (get_or l.values k (pos 0));
  codes : (k : ℕ) → k < l.i → get_or l.codes k 0 ≡ distance (get_or l.values k (pos 0)) l.self.base;
}
