use Rattle.std.proofs.Common.{[], ap, arith, length, sym, ◌*◌, ◌+◌, ◌<◌, ◌∙◌}
use Rattle.bw_byteslice.specs.Slices.{number_of, slices_of}
use Rattle.bw_byteslice.specs.Storing.{byte_of, bytes_of}
use Rattle.bw_byteslice.proofs.Numbers.{number_more, number_none, number_small}
use Rattle.bw_byteslice.proofs.Replacing.{byte_is, read_is}
use Rattle.bw_byteslice.proofs.reading.code_at.Goals as goal

pub loop-i-init : goal.loop-i-init
loop-i-init c = sym (number_none (byte_of (bytes_of c.args.slices.now) c.args.j))

pub overflow_mul-number : goal.overflow_mul-number
overflow_mul-number c =
    let small = number_small (byte_of (bytes_of c.args.slices.now) c.args.j) (λ i. c.requires.bytes i c.args.j) c.loop-i.i (omega arith) in
    omega (arith, c.loop-i.invariant, small)

pub index-requires : goal.index-requires
index-requires c =
    let was = read_is (λ v. v.items) [] c.args.slices.now c.loop-i.i (omega arith) c.index-slices-i.result c.index-slices-i.is in
    let within : c.loop-i.i < slices_of c.args.width = omega arith in
    omega (arith, ap length was, c.requires.there c.loop-i.i within)

pub overflow_add-number : goal.overflow_add-number
overflow_add-number c =
    let within : c.loop-i.i < slices_of c.args.width = omega arith in
    let byte = c.from.ensures ∙ byte_is c.args.slices.now c.loop-i.i c.args.j c.index.result.now c.index-slices-i.result (omega arith) c.index-slices-i.is (c.requires.there c.loop-i.i within) c.index.ensures in
    let small = number_small (byte_of (bytes_of c.args.slices.now) c.args.j) (λ i. c.requires.bytes i c.args.j) c.loop-i.i (omega arith) in
    omega (arith, c.loop-i.invariant, small, byte, c.requires.bytes c.loop-i.i c.args.j)

pub loop-i-preserved : goal.loop-i-preserved
loop-i-preserved c =
    let within : c.loop-i.i < slices_of c.args.width = omega arith in
    let byte = c.from.ensures ∙ byte_is c.args.slices.now c.loop-i.i c.args.j c.index.result.now c.index-slices-i.result (omega arith) c.index-slices-i.is (c.requires.there c.loop-i.i within) c.index.ensures in
    ap (λ n. n * 256 + c.from.result) c.loop-i.invariant
    ∙ ap (λ b. number_of c.loop-i.i (byte_of (bytes_of c.args.slices.now) c.args.j) * 256 + b) byte
    ∙ sym (number_more c.loop-i.i (byte_of (bytes_of c.args.slices.now) c.args.j))
