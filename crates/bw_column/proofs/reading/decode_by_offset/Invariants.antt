use Rattle.std.proofs.Common.{slice_index, ℕ, ◌<◌, ◌≡◌}
use Rattle.bw_mask.specs.Masks.{bit_of}
use Rattle.bw_code.specs.declared.encoding.Encoding.TheVariants as by
use Rattle.bw_column.specs.Codes.{value_from}
use Rattle.bw_column.specs.Values.{value_at}
use Rattle.bw_column.proofs.reading.decode_by_offset.Given as goal

abbrev pub invariant-loop-i : goal.invariant-loop-i
invariant-loop-i l = (k : ℕ) → k < l.i → value_at l.out k ≡ value_from (by.Offset l.offset) (slice_index l.codes k) (bit_of l.present k)
