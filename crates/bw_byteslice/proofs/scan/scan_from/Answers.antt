use Rattle.std.proofs.Common.{ap, arith, ◌&&◌, ◌∙◌}
use Rattle.bw_mask.specs.Masks.{len, row_at}
use Rattle.bw_code.specs.Tests.{meets}
use Rattle.bw_code.specs.Units.{scan_units, segments_of}
use Rattle.bw_byteslice.specs.Slices.{by_bytes, code_in, number_in, raised, shift_of, slices_of}
use Rattle.bw_byteslice.proofs.Raised.{meets_raised, number_is, units_raised}
use Rattle.bw_byteslice.proofs.scan.scan_from.Goals as goal

pub returns-clause-reads : goal.returns-clause-reads
returns-clause-reads g c =
    let k = c.args.width in
    let units = g.S.Source.units c.args.source.now in
    let needed = row_at c.args.need.now in
    let segments = segments_of 32 (len c.args.need.now) in
    let count = ap (λ m. scan_units (by_bytes m) c.raise_test-raised.result needed (number_in m units) segments) c.slices_of.ensures in
    let test = ap (λ t. scan_units (by_bytes (slices_of k)) t needed (number_in (slices_of k) units) segments) c.raise_test-raised.ensures.value in
    let cost = count ∙ test ∙ units_raised k units c.requires.stored c.args.test needed segments in
    omega (arith, c.scan_numbers.ensures.reads, cost)

pub returns-clause-rows : goal.returns-clause-rows
returns-clause-rows g c j =
    let k = c.args.width in
    let units = g.S.Source.units c.args.source.now in
    c.scan_numbers.ensures.rows j
    ∙ ap (λ m. row_at c.args.need.now j && meets c.raise_test-raised.result (number_in m units j)) c.slices_of.ensures
    ∙ ap (λ t. row_at c.args.need.now j && meets t (number_in (slices_of k) units j)) c.raise_test-raised.ensures.value
    ∙ ap (λ x. row_at c.args.need.now j && meets (raised (shift_of k) c.args.test) x) (number_is k units c.requires.stored j)
    ∙ ap (λ b. row_at c.args.need.now j && b) (meets_raised (shift_of k) c.args.test (code_in k units j))
