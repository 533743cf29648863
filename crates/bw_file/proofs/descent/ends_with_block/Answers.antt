use Rattle.std.proofs.Common.{sym, ◌*◌, ◌+◌, ◌==◌, ◌≡◌, ◌∙◌, false, true}
use Rattle.bw_vertical.proofs.Numbers.{number_fits}
use Rattle.bw_file.specs.Descents.{bit_at_row}
use Rattle.bw_file.specs.Planes.{code_in, plane_bit}
use Rattle.bw_file.proofs.BlockEnds.{block_row, no_more, with_more}
use Rattle.bw_file.proofs.descent.ends_with_block.Goals.{then-ends, else-ends, then-ends-2, else-ends-2}
use Rattle.bw_file.proofs.descent.ends_with_block.Goals as goal

pub returns-then-not-has_row : goal.returns-then-not-has_row
returns-then-not-has_row c has code n bits codes first =
    no_more has (bit_at_row c.args.there.now) code (λ r. code_in c.args.k c.args.size c.args.planes.now (8 * c.args.from + r)) n 4096 bits codes c.args.ends first (c.has_row.ensures.none c.if-not-has_row.true)

pub returns : goal.returns
returns c has code n bits codes first =
    let there = c.args.there.now in
    let row = block_row there c.told-there in
    let some = c.has_row.ensures.some c.if-not-has_row.false in
    with_more has (bit_at_row there) code (λ r. code_in c.args.k c.args.size c.args.planes.now (8 * c.args.from + r)) n 4096 bits codes c.args.ends first
    (some.0, row some.0 some.1, some.1)
    (λ r. number_fits (λ q. plane_bit c.args.size c.args.planes.now q (8 * c.args.from + r) == 1) c.args.k 64 c.requires.narrow)
    c.if-ends.least c.if-ends-2.greatest c.least_in.result c.greatest_in.result
    (elim c.if-ends.branch [ then-ends w ↦ ((λ any. w.least-is), (λ none. let no : false ≡ true = sym none ∙ w.if-ends.true in absurd cc)) | else-ends w ↦ ((λ any. let no : false ≡ true = sym w.if-ends.false ∙ any in absurd cc), (λ none. w.least-is)) ])
    (elim c.if-ends-2.branch [ then-ends-2 w ↦ ((λ any. w.greatest-is), (λ none. let no : false ≡ true = sym none ∙ w.if-ends-2.true in absurd cc)) | else-ends-2 w ↦ ((λ any. let no : false ≡ true = sym w.if-ends-2.false ∙ any in absurd cc), (λ none. w.greatest-is)) ])
    c.least_in.ensures.most c.least_in.ensures.bound (λ less. let at = c.least_in.ensures.reached less in (at.0, row at.0 at.1, at.1, at.2))
    c.greatest_in.ensures.least c.greatest_in.ensures.bound (λ more. let at = c.greatest_in.ensures.reached more in (at.0, row at.0 at.1, at.1, at.2))
