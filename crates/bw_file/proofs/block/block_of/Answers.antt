use Rattle.std.proofs.Common.{arith, length, length-drop, length-take, ap, drop, ◌+◌, ◌-◌, ◌∙◌}
use Rattle.bw_file.proofs.RowBytes.{padded_bits, padded_rest}
use Rattle.bw_file.proofs.block.block_of.Goals as goal

pub returns-clause-bits : goal.returns-clause-bits
returns-clause-bits c r h =
    padded_bits c.copy_from_slice.new.self _ c.args.bytes.now c.args.from c.args.n (c.args.from + c.args.n - c.args.from) c.copy_from_slice.ensures.after (omega arith) c.requires.there r h

pub returns-clause-rest : goal.returns-clause-rest
returns-clause-rest c r h =
    let m = c.args.from + c.args.n - c.args.from in
    padded_rest c.copy_from_slice.new.self c.args.n 512 (ap length c.copy_from_slice.ensures.after ∙ omega (arith, c.requires.there, length-take (c.args.from + c.args.n - c.args.from) (drop c.args.from c.args.bytes.now), length-drop c.args.from c.args.bytes.now)) r h
