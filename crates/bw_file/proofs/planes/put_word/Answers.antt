use Rattle.std.proofs.Common.{ap, arith, drop, get_or, length, length-append, length-drop, ◌/◌, ◌∙◌}
use Rattle.std.proofs.lemmas.List.{get_or-take, get_or_append_left}
use Rattle.byteorder.specs.Endian.{little_bytes}
use Rattle.byteorder.specs.Numbers.{length-bytes_low_first}
use Rattle.bw_file.proofs.Bits.{byte_of}
use Rattle.bw_file.proofs.Written.{word_bits}
use Rattle.bw_file.proofs.planes.put_word.Goals as goal

pub returns-then-out-eq8 : goal.returns-then-out-eq8
returns-then-out-eq8 c =
    let out = c.args.out.now in
    let bytes = little_bytes 8 c.args.word in
    let size = length-bytes_low_first 0 8 c.args.word in
    record {
      len = ap length c.write_u64.ensures ∙ omega (arith, length-append bytes (drop 8 out), size, length-drop 8 out, c.if-out-eq8.true);
      bits = λ i h. word_bits c.args.word i c.write_u64.new.buf
          (ap (λ xs. get_or xs (i / 8) 0) c.write_u64.ensures ∙ get_or_append_left bytes (drop 8 out) 0 (i / 8) (omega (arith, h, size, c.if-out-eq8.true))
          ∙ byte_of 8 (i / 8) c.args.word (omega (arith, h, c.if-out-eq8.true)));
    }

pub returns-else-out-eq8 : goal.returns-else-out-eq8
returns-else-out-eq8 c =
    let n = length c.args.out.now in
    record {
      len = c.copy_from_slice.ensures.len;
      bits = λ i h. word_bits c.args.word i c.copy_from_slice.new.self
          (ap (λ xs. get_or xs (i / 8) 0) c.copy_from_slice.ensures.after ∙ get_or-take n c.to_le_bytes.result (i / 8) 0 h ∙ ap (λ xs. get_or xs (i / 8) 0) c.to_le_bytes.ensures
          ∙ byte_of 8 (i / 8) c.args.word (omega (arith, h, c.requires.few)));
    }
