use Rattle.std.proofs.Common.{◌≡◌, ◌<◌, ◌^◌, to_z, of_z, w64, rules, arith}
use Rattle.std.proofs.lemmas.Int.{to_z-of_z}
use Rattle.bw_code.specs.Encodings.{bits_of, distance}
use Rattle.bw_code.proofs.Fits.{between}
use Rattle.bw_code.proofs.offset.Offset.spanning.Goals as goal

pub returns-clause-coded : goal.returns-clause-coded
returns-clause-coded c =
    let low : to_z w64 (of_z w64 c.in-Some.field-0.least) ≡ c.in-Some.field-0.least = to_z-of_z w64 c.in-Some.field-0.least (search rules) in
    let high : to_z w64 (of_z w64 c.in-Some.field-0.greatest) ≡ c.in-Some.field-0.greatest = to_z-of_z w64 c.in-Some.field-0.greatest (search rules) in
    let far : c.abs_diff.result ≡ distance c.in-Some.field-0.greatest c.in-Some.field-0.least = rw (low, high) at c.abs_diff.ensures in
    let wide : c.width_of.result ≡ bits_of (distance c.in-Some.field-0.greatest c.in-Some.field-0.least) = rw (← far) c.width_of.ensures.is in
    let near : distance c.in-Some.field-0.greatest c.in-Some.field-0.least < 2 ^ 64 = rw (← far) (omega arith) in
    λ values ends. let known = rw c.in-Some.is at ends in rw low (between values c.in-Some.field-0.least c.in-Some.field-0.greatest c.width_of.result known.0 known.1 wide near)
