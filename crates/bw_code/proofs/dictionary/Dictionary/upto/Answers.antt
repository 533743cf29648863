use Rattle.std.proofs.Common.{ℤ, Bool, rules, of_calls, int_le, sym, arith}
use Rattle.std.proofs.lemmas.Int.{ints}
use Rattle.std.proofs.lemmas.List.Sorted.{IsPartitionPoint-from_clause}
use Rattle.bw_code.specs.Ascending.{IsAscending}
use Rattle.bw_code.proofs.Entries.{counted, parted}
use Rattle.bw_code.proofs.dictionary.Dictionary.upto.Goals as goal

pub returns : goal.returns
returns c =
    let xs = c.as_slice.result.now in
    let test : ℤ → Bool = λ y. int_le y c.args.x in
    let up : IsAscending xs = rw c.as_slice.ensures.value c.self.invariant in
    let point = IsPartitionPoint-from_clause test xs c.partition_point.result c.partition_point.ensures.partitioned (parted xs up test (λ a b l h. grind (arith, ints))) (λ a r f k. search (rules, of_calls)) in
    rw (← c.self.view_is, ← c.as_slice.ensures.value) (sym (counted test xs c.partition_point.result c.partition_point.ensures.bound point.0 point.1))
