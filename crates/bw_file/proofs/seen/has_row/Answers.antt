use Rattle.std.proofs.Common.{ap, arith, get_or, rules, ◌%◌, ◌*◌, ◌+◌, ◌/◌, ◌<◌, ◌^◌, ◌≡◌, ◌∙◌}
use Rattle.bw_mask.specs.Masks.{bit_of}
use Rattle.bw_vertical.proofs.Descending.{some_bit}
use Rattle.bw_file.proofs.seen.has_row.Goals as goal

pub returns-then-rows-j-ne0 : goal.returns-then-rows-j-ne0
returns-then-rows-j-ne0 c e =
    let rows = c.args.rows.now in
    let j = c.loop-j.j in
    let small : get_or rows j 0 < 2 ^ 64 = search rules in
    let bit = some_bit 64 (get_or rows j 0) small c.if-rows-j-ne0.true in
    let word : (64 * j + bit.0) / 64 ≡ j = omega (arith, bit.1) in
    let place : (64 * j + bit.0) % 64 ≡ bit.0 = omega (arith, bit.1) in (
      64 * j + bit.0,
      omega (arith, bit.1, c.loop-j-test.true),
      ap (λ q. bit_of (get_or rows q 0) ((64 * j + bit.0) % 64)) word ∙ ap (bit_of (get_or rows j 0)) place ∙ bit.2,
    )
