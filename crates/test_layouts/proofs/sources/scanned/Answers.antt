use Rattle.std.proofs.Common.{arith, length, rules, ◌≡◌}
use Rattle.std.proofs.lemmas.List.{length-replicate}
use Rattle.std.specs.Int.{div_ceil}
use Rattle.test_layouts.proofs.sources.scanned.Goals as goal

pub scan_from-requires-clause-units : goal.scan_from-requires-clause-units
scan_from-requires-clause-units g c =
    let rows : length c.expect-need.result.rows ≡ c.args.rows = search (length-replicate, rules) in
    let one : div_ceil (length c.expect-need.result.rows) 256 ≡ 1 = omega (arith, rows, c.requires.any, c.requires.segment) in
    let planes : length c.expect.result.items ≡ length c.args.planes.now = search rules in
    rw one (omega (arith, planes))
