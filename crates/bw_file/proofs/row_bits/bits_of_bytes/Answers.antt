use Rattle.std.proofs.Common.{ap, arith, drop, length, replicate, ◌++◌, ◌≡◌, ◌∙◌}
use Rattle.byteorder.specs.Endian.{little_number}
use Rattle.bw_mask.specs.Masks.{bit_of}
use Rattle.bw_file.proofs.RowBits.{bit_of_bytes, bit_of_padded}
use Rattle.bw_file.proofs.row_bits.bits_of_bytes.Goals as goal

pub returns-then-bytes-ge8 : goal.returns-then-bytes-ge8
returns-then-bytes-ge8 c k h there =
    ap (λ n. bit_of n k) c.read_u64.ensures ∙ bit_of_bytes 8 k c.args.bytes.now (λ i. omega (arith, c.type_inv.bytes i)) (omega (arith, h))

pub returns : goal.returns
returns c k h there =
    let bytes = c.args.bytes.now in
    let read : c.read_u64-2.result ≡ little_number 8 (c.copy_from_slice.new.self ++ drop (length bytes) (replicate 8 0)) = c.read_u64-2.ensures in
    ap (λ n. bit_of n k) (read ∙ ap (λ xs. little_number 8 (xs ++ drop (length bytes) (replicate 8 0))) c.copy_from_slice.ensures.after)
    ∙ bit_of_padded k bytes (λ i. omega (arith, c.type_inv.bytes i)) h there
