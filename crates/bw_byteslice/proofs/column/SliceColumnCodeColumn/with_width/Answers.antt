use Rattle.std.proofs.Common.{arith, length, ◌≡◌}
use Rattle.std.proofs.lemmas.List.{length-map}
use Rattle.bw_byteslice.specs.Slices.{slices_of}
use Rattle.bw_byteslice.specs.Storing.{bytes_of}
use Rattle.bw_byteslice.proofs.Keeping.{slices_none}
use Rattle.bw_byteslice.proofs.column.SliceColumnCodeColumn.with_width.Goals as goal

pub invariant_of-result : goal.invariant_of-result
invariant_of-result c =
    let count : length (bytes_of c.in_ok-slices.slices.items) ≡ slices_of c.args.width = omega (arith, length-map c.in_ok-slices.slices.items (λ v. v.items), c.in_ok-slices.ensures.count, c.slices_of.ensures) in
    slices_none c.args.width (bytes_of c.in_ok-slices.slices.items) c.requires.some c.requires.narrow count c.in_ok-slices.ensures.none
