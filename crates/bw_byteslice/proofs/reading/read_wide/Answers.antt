use Rattle.std.proofs.Common.{ap, arith, drop, get_or, length, length-drop, length-take, take, ◌+◌, ◌-◌, ◌<◌, ◌*◌, ◌/◌, ◌^◌, ◌≡◌, ◌∙◌}
use Rattle.bw_byteslice.specs.Slices.{slices_of}
use Rattle.bw_byteslice.specs.Storing.{bytes_of, number_at}
use Rattle.bw_byteslice.proofs.Halves.{lower_at, upper_at, wide_code}
use Rattle.bw_byteslice.proofs.reading.read_wide.Goals as goal

pub read_halves-requires-clause-there : goal.read_halves-requires-clause-there
read_halves-requires-clause-there c i h =
    let slices = c.args.slices.now in
    let m = length slices - 4 in
    let inside : i < length slices - 4 = omega (arith, h, length-take (length slices - 4) slices) in
    rw (upper_at (length slices - 4) slices i inside) (c.requires.there i (omega (arith, inside, c.requires.count)))

pub read_halves-requires-clause-lower_there : goal.read_halves-requires-clause-lower_there
read_halves-requires-clause-lower_there c i h =
    let slices = c.args.slices.now in
    let m = length slices - 4 in
    let n = length slices - (length slices - 4) in
    let inside : i < length slices - (length slices - 4) = omega (arith, h, length-take (length slices - (length slices - 4)) (drop (length slices - 4) slices)) in
    rw (lower_at (length slices - 4) slices (length slices - (length slices - 4)) i inside) (c.requires.there (length slices - 4 + i) (omega (arith, inside, c.requires.count)))

pub returns-clause-codes : goal.returns-clause-codes
returns-clause-codes c r h =
    let slices = c.args.slices.now in
    let m = length slices - 4 in
    let n = length slices - (length slices - 4) in
    let count : slices_of c.args.width ≡ length slices - 4 + 4 = omega (arith, c.requires.count, c.requires.wide) in
    let four : length slices - (length slices - 4) ≡ 4 = omega (arith, c.requires.count, c.requires.wide) in
    let upper : length (take (length slices - 4) slices) ≡ length slices - 4 = omega (arith, length-take (length slices - 4) slices) in
    let lower : length (take (length slices - (length slices - 4)) (drop (length slices - 4) slices)) ≡ 4 = omega (arith, length-take (length slices - (length slices - 4)) (drop (length slices - 4) slices), length-drop (length slices - 4) slices, four) in
    wide_code (length slices - 4) c.args.width c.shift_of.result _ _ (c.args.at + r) (get_or c.read_halves.new.out r 0) slices count upper lower c.shift_of.ensures
    (c.read_halves.ensures.numbers r h
    ∙ ap (λ k. (2 ^ 32 * number_at (length (take (length slices - 4) slices)) (bytes_of (take (length slices - 4) slices)) (c.args.at + r) + number_at (length (take (length slices - (length slices - 4)) (drop (length slices - 4) slices))) (bytes_of (take k (drop (length slices - 4) slices))) (c.args.at + r)) / 2 ^ c.shift_of.result) four)
