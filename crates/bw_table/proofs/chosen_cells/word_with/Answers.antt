use Rattle.std.proofs.Common.{Bool, List, ap, arith, false, get_or, inl, inr, length, of_calls, rules, true, ℕ, ◌*◌, ◌+◌, ◌-◌, ◌<◌, ◌≡◌, ◌≤◌, ◌∙◌}
use Rattle.std.proofs.Math.Dec.{leb}
use Rattle.std.specs.List.Sorted.{IsPartitionPoint, IsPartitionedBy}
use Rattle.std.proofs.lemmas.Bool.{cases_lt, le-leb, leb-false, leb-true}
use Rattle.std.proofs.lemmas.List.{get_or_default}
use Rattle.std.proofs.lemmas.List.Sorted.{IsPartitionPoint-from_clause}
use Rattle.bw_mask.specs.Masks.{MaskRows, len}
use Rattle.bw_table.specs.Changes.{places}
use Rattle.bw_table.specs.Choosing.{AreCounts}
use Rattle.bw_table.proofs.Chosen.{few_places, fewer, places_past}
use Rattle.bw_table.proofs.chosen_cells.word_with.Goals as goal

abbrev test : goal.After-partition_point → ℕ → Bool
test c y = leb y c.args.i

-- the counts rise
rising : (mask : MaskRows) (counts : List ℕ) (i : ℕ) → AreCounts mask counts → IsPartitionedBy (λ y. leb y i) counts
rising mask counts i are a b d h l t =
    let low : a < length counts = omega (arith, h, l) in
    let high = leb-true (get_or counts b d) i t in
    let before = get_or_default counts a d 0 low ∙ are.each a low in
    let after = get_or_default counts b d 0 l ∙ are.each b l in
    le-leb (get_or counts a d) i (omega (arith, high, before, after, fewer mask (64 * a) (64 * b) (omega (arith, h))))

point : (c : goal.After-partition_point) → IsPartitionPoint (λ y. test c y ≡ true) (λ y. test c y ≡ false) c.args.before.now c.partition_point.result
point c = IsPartitionPoint-from_clause (test c) c.args.before.now c.partition_point.result c.partition_point.ensures.partitioned (rising c.requires.0 c.args.before.now c.args.i c.requires.1) (λ a r f k. search (rules, of_calls))

-- there is a word, and the first one has no row before it
some : (mask : MaskRows) (counts : List ℕ) (i : ℕ) → AreCounts mask counts → i < length (places mask) → 0 < length counts
some mask counts i are low = omega (arith, low, few_places mask (len mask), are.covers)

pub overflow_sub-result : goal.overflow_sub-result
overflow_sub-result c =
    let counts = c.args.before.now in
    let mask = c.requires.0 in
    let are : AreCounts mask counts = c.requires.1 in
    let first = some mask counts c.args.i are c.requires.2 in
    elim (cases_lt 0 c.partition_point.result) [
      | inl some_are ↦ some_are
      | inr none ↦ absurd (omega (arith, leb-false (get_or counts 0 0) c.args.i ((point c).1 0 0 none first), are.each 0 first, few_places mask (64 * 0)))
    ]

pub returns : goal.returns
returns c mask are low =
    let counts = c.args.before.now in
    let i = c.args.i in
    let r = c.partition_point.result in
    let one : 1 ≤ r = overflow_sub-result c in
    let bound = c.partition_point.ensures.bound in
    let at : r - 1 < length counts = omega (arith, one, bound) in
    let e : r - 1 + 1 ≡ r = omega (arith, one) in
    let before = leb-true (get_or counts (r - 1) 0) i ((point c).0 (r - 1) 0 (omega arith) (omega (arith, one))) in (
      omega (arith, before, are.each (r - 1) at),
      elim (cases_lt r (length counts)) [
        | inl inner ↦ rw e (omega (arith, leb-false (get_or counts r 0) i ((point c).1 r 0 (omega arith) inner), are.each r inner))
        | inr last ↦ rw e (omega (arith, low, ap length (places_past mask (64 * r) (omega (arith, last, are.covers)))))
      ],
    )
