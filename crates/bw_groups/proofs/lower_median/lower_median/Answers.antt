use Rattle.std.proofs.Common.{ap, arith, of_z, sym, to_z, w64, ◌≡◌, ◌∙◌}
use Rattle.std.proofs.lemmas.Int.{ints, to_z-of_z}
use Rattle.std.specs.Prelude.{slice_get, slice_index_or}
use Rattle.bw_cells.specs.SetFunctions.{sorted}
use Rattle.bw_groups.proofs.Ends.{lower_is, middle_told}
use Rattle.bw_groups.proofs.lower_median.lower_median.Goals as goal

pub returns : goal.returns
returns c =
    let front = c.select_nth_unstable-value.result.0.now in
    let value = c.select_nth_unstable-value.result.1.now in
    let rest = c.select_nth_unstable-value.result.2.now in
    let back : to_z w64 (of_z w64 value) ≡ value = search (arith, ints, to_z-of_z) in
    rw back
    (ap (slice_get (sorted c.args.values.now)) (sym c.select_nth_unstable-value.ensures.front_len)
    ∙ middle_told c.args.values.now front rest value c.select_nth_unstable-value.ensures.permutation
    (λ k d l. lower_is value (slice_index_or front k d) ∙ c.select_nth_unstable-value.ensures.partitioned.0 k d l)
    (λ k d l. lower_is (slice_index_or rest k d) value ∙ c.select_nth_unstable-value.ensures.partitioned.1 k d l))
