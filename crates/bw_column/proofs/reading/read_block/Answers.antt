use Rattle.std.proofs.Common.{arith, length, rules, sym, ◌+◌, ◌<◌, ◌≡◌, ◌∙◌}
use Rattle.std.proofs.lemmas.Bool.{lt-ltb}
use Rattle.bw_code.proofs.Lists.{part_at}
use Rattle.bw_column.specs.Storing.{list_of}
use Rattle.bw_column.proofs.Rows.{value_of_row}
use Rattle.bw_column.proofs.reading.read_block.Goals as goal

pub returns : goal.returns
returns c k h =
    let codes = list_of c.args.codes.now in
    let long : length c.read.new.out ≡ length c.args.out.now = search rules in
    let within : k < length c.read.new.out = omega (arith, h, long) in
    c.decode_all.ensures k h ∙ rw (part_at codes.codes c.read.new.out c.args.at _ k 0 c.read.ensures.codes within, c.bits.ensures k, lt-ltb k 64 (omega (arith, h, c.requires.few)))
    (sym (value_of_row c.args.encoding.now codes c.args.nonnull.now c.requires.rows (c.args.at + k)))
