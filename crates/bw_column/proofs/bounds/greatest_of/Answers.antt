use Rattle.std.proofs.Common.{ap, arith, of_z, pos, to_z, w64, ◌+ℤ◌, ◌-◌, ◌/◌, ◌∙◌, ◌≡◌, ◌^◌}
use Rattle.std.specs.Int.{saturate_signed}
use Rattle.std.proofs.lemmas.Int.{ints, to_z-of_z}
use Rattle.bw_code.specs.Encodings.{top}
use Rattle.bw_code.proofs.Offsets.{ones}
use Rattle.bw_column.proofs.Bounded.{saturated}
use Rattle.bw_column.proofs.bounds.greatest_of.Goals as goal

pub returns : goal.returns
returns c = λ x within fits.
    let o = c.args.offset in
    let base : to_z w64 (of_z w64 o.base) ≡ o.base = search (arith, ints, to_z-of_z) in
    let back : to_z w64 (of_z w64 c.saturating_add_unsigned.result) ≡ c.saturating_add_unsigned.result = search (arith, ints, to_z-of_z) in
    let sum : c.saturating_add_unsigned.result ≡ saturate_signed w64 (o.base +ℤ pos ((2 ^ 64 - 1) / 2 ^ (64 - o.width))) = rw base at c.saturating_add_unsigned.ensures in
    let is : c.saturating_add_unsigned.result ≡ saturate_signed w64 (top o) = sum ∙ ap (λ n. saturate_signed w64 (o.base +ℤ pos n)) (ones o.width o.some o.few) in
    rw (back, is) (saturated (top o) x within.1 fits)
