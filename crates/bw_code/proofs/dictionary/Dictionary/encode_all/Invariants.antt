use Rattle.std.proofs.Common.{◌≡◌, ℕ, ◌<◌, get_or, pos, Some}
use Rattle.std.specs.List.{Contains}
use Rattle.bw_code.specs.Encodings.{entry_code}
use Rattle.bw_code.proofs.dictionary.Dictionary.encode_all.Given as goal

abbrev pub invariant-loop-i : goal.invariant-loop-i
invariant-loop-i l = record {
  held : (k : ℕ) → k < l.i → Contains l.self (get_or l.values k (pos 0));
  codes : (k : ℕ) → k < l.i → entry_code l.self (get_or l.values k (pos 0)) ≡ Some (get_or l.codes k 0);
}
