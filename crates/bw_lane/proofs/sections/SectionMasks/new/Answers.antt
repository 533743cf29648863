use Rattle.std.proofs.Common.{◌*◌, ◌^◌, ◌%◌, ap, ◌∙◌, arith}
use Rattle.bw_lane.specs.Sections.{sections_in}
use Rattle.bw_lane.proofs.Kernels.{shifted_delimiters, codes_between}
use Rattle.bw_lane.proofs.sections.SectionMasks.new.Goals as goal

pub overflow_sub-codes : goal.overflow_sub-codes
overflow_sub-codes c =
    let k = c.args.width in
    rw (c.lowest_of_sections-lowest.ensures, shifted_delimiters k) (codes_between k (sections_in k)).0

pub invariant_of-result : goal.invariant_of-result
invariant_of-result c =
    let k = c.args.width in
    let e = c.lowest_of_sections-lowest.ensures in
    let d = ap (λ n. n * 2 ^ k % 2 ^ 64) e ∙ shifted_delimiters k in
    record {
      in_range = omega arith;
      lowest_is = e;
      delimiters_is = d;
      codes_is = rw (e, shifted_delimiters k) (codes_between k (sections_in k)).1;
    }
