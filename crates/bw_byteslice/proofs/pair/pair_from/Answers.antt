use Rattle.std.proofs.Common.{ap, arith, ◌&&◌, ◌∙◌}
use Rattle.bw_mask.specs.Masks.{len, row_at}
use Rattle.bw_code.specs.Tests.{code_compares}
use Rattle.bw_code.specs.Units.{segments_of, side_units}
use Rattle.bw_byteslice.specs.Slices.{by_bytes, number_in}
use Rattle.bw_byteslice.proofs.Raised.{numbers_compare, sides_raised}
use Rattle.bw_byteslice.proofs.pair.pair_from.Goals as goal

pub returns-clause-reads : goal.returns-clause-reads
returns-clause-reads g c =
    let units = g.A.Source.units c.args.a.now in
    let others = g.B.Source.units c.args.b.now in
    let needed = row_at c.args.need.now in
    let segments = segments_of 32 (len c.args.need.now) in
    let cost = ap (λ m. side_units (by_bytes m) needed (number_in m units) (number_in m others) segments) c.slices_of.ensures ∙ sides_raised c.args.width units others c.requires.stored c.requires.other_stored needed segments in
    omega (arith, c.pair_numbers.ensures.reads, cost)

pub returns-clause-other_reads : goal.returns-clause-other_reads
returns-clause-other_reads g c =
    let units = g.A.Source.units c.args.a.now in
    let others = g.B.Source.units c.args.b.now in
    let needed = row_at c.args.need.now in
    let segments = segments_of 32 (len c.args.need.now) in
    let cost = ap (λ m. side_units (by_bytes m) needed (number_in m units) (number_in m others) segments) c.slices_of.ensures ∙ sides_raised c.args.width units others c.requires.stored c.requires.other_stored needed segments in
    omega (arith, c.pair_numbers.ensures.other_reads, cost)

pub returns-clause-rows : goal.returns-clause-rows
returns-clause-rows g c j =
    let units = g.A.Source.units c.args.a.now in
    let others = g.B.Source.units c.args.b.now in
    c.pair_numbers.ensures.rows j
    ∙ ap (λ m. row_at c.args.need.now j && code_compares c.args.op (number_in m units j) (number_in m others j)) c.slices_of.ensures
    ∙ ap (λ b. row_at c.args.need.now j && b) (numbers_compare c.args.width units others c.requires.stored c.requires.other_stored c.args.op j)
