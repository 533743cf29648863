use Rattle.std.proofs.Common.{None, false, get_or, length, true, unwrap_or, ℕ, ◌<◌, ◌≡◌}
use Rattle.bw_code.specs.Encodings.{distance}
use Rattle.bw_code.specs.declared.encoding.Encoding.TheVariants as by
use Rattle.bw_column.specs.Codes.{IsCoded}
use Rattle.bw_column.proofs.codes.encode_by_offset.Given as goal

abbrev pub invariant-loop-i : goal.invariant-loop-i
invariant-loop-i l = record {
  held : l.all ≡ true → (k : ℕ) → k < l.i → IsCoded (by.Offset l.offset) (get_or l.values k None);
  missed : l.all ≡ false → (k : ℕ) × (k < length l.values) × ¬ IsCoded (by.Offset l.offset) (get_or l.values k None);
  codes : (k : ℕ) → k < l.i → IsCoded (by.Offset l.offset) (get_or l.values k None) → get_or l.codes k 0 ≡ distance (unwrap_or (get_or l.values k None) l.offset.base) l.offset.base;
}
