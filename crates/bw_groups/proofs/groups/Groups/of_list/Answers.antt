use Rattle.std.proofs.Common.{Bool, List, Option, arith, cond, false, length, map, pos, sym, true, ℕ, ℤ, ◌+ℤ◌, ◌+◌, ◌-◌, ◌==◌, ◌≡◌, ◌∙◌, ap, not, Some, None, ◌++◌, ◌∷◌, [], if◌then◌else◌}
use Rattle.std.proofs.lemmas.Bool.Decides.{nat_tests}
use Rattle.std.proofs.lemmas.List.{length-append, length-map}
use Rattle.bw_cells.specs.SetFunctions.{known}
use Rattle.bw_rank.specs.Ranks.{AreRanked, times_in}
use Rattle.bw_groups.specs.Spreading.{ranks_over}
use Rattle.bw_groups.proofs.Grouped.{are_groups, counted_known, counted_null, entries_within, few_entries, group_count, many, null_test, ranks_many}
use Rattle.bw_groups.proofs.Spread.{known_few, spread_length}
use Rattle.bw_groups.proofs.groups.Groups.of_list.Goals.{then-nulls-ne0+in_ok-push, else-nulls-ne0}
use Rattle.bw_groups.proofs.groups.Groups.of_list.Goals as goal

pub overflow_sub-nulls : goal.overflow_sub-nulls
overflow_sub-nulls c =
    let as_many : length c.in_ok-numbers.numbers.items ≡ length (known c.args.values.now) = sym (length-map c.in_ok-numbers.numbers.items (λ n. c.known_ends-ends.result.least +ℤ pos n)) ∙ ap length c.in_ok-numbers.ensures in
    omega (arith, c.len.ensures, c.len-2.ensures, c.in_ok-numbers.numbers.ok, as_many, known_few c.args.values.now)

pub rank_counted-requires : goal.rank_counted-requires
rank_counted-requires c =
    let as_many : length c.in_ok-numbers.numbers.items ≡ length (known c.args.values.now) = sym (length-map c.in_ok-numbers.numbers.items (λ n. c.known_ends-ends.result.least +ℤ pos n)) ∙ ap length c.in_ok-numbers.ensures in
    let here : length c.deref.result.now ≡ length c.in_ok-numbers.numbers.items = ap length c.deref.ensures.value in
    omega (arith, here, as_many, known_few c.args.values.now, c.requires)

pub overflow_cast-len : goal.overflow_cast-len
overflow_cast-len c =
    let r : AreRanked c.in_ok-numbers.numbers.items c.in_ok-entries.field-0 = rw c.deref.ensures.value at c.in_ok-entries.ensures in
    let stand : map (λ n. c.known_ends-ends.result.least +ℤ pos n) c.in_ok-numbers.numbers.items ≡ known c.args.values.now = c.in_ok-numbers.ensures in
    let few = few_entries c.known_ends-ends.result.least c.args.values.now c.in_ok-numbers.numbers.items stand c.in_ok-entries.field-0.entries.items c.in_ok-entries.field-0.ranks.items r.ranks in
    let as_many = many c.known_ends-ends.result.least c.args.values.now c.in_ok-numbers.numbers.items stand c.in_ok-entries.field-0.entries.items c.in_ok-entries.field-0.ranks.items r.ranks in
    omega (arith, c.len-3.ensures, c.in_ok-entries.field-0.entries.ok, few, as_many, known_few c.args.values.now, c.requires)

pub values_at-requires : goal.values_at-requires
values_at-requires c =
    let r : AreRanked c.in_ok-numbers.numbers.items c.in_ok-entries.field-0 = rw c.deref.ensures.value at c.in_ok-entries.ensures in
    let stand : map (λ n. c.known_ends-ends.result.least +ℤ pos n) c.in_ok-numbers.numbers.items ≡ known c.args.values.now = c.in_ok-numbers.ensures in
    rw c.deref-2.ensures.value
    (entries_within c.known_ends-ends.result.least c.args.values.now c.in_ok-numbers.numbers.items stand c.in_ok-entries.field-0.entries.items c.in_ok-entries.field-0.ranks.items r.ranks c.known_ends-ends.result.greatest c.known_ends-ends.ensures.greatest)

pub overflow_cast-nulls : goal.overflow_cast-nulls
overflow_cast-nulls c = omega (arith, c.requires)

-- the values of the groups, by the entries
module _ (entries deref : List ℕ) (gives : deref ≡ entries) (least : ℤ) (b : Bool) (items : List (Option ℤ)) where
  groups_by : items ≡ map (λ n. Some (least +ℤ pos n)) deref ++ (if b then None ∷ [] else []) → items ≡ map (λ n. Some (least +ℤ pos n)) entries ++ (if b then None ∷ [] else [])
  groups_by is = is ∙ ap (λ ns. map (λ n. Some (least +ℤ pos n)) ns ++ (if b then None ∷ [] else [])) gives

pub invariant_of-result : goal.invariant_of-result
invariant_of-result c =
    let values = c.args.values.now in
    let least = c.known_ends-ends.result.least in
    let numbers = c.in_ok-numbers.numbers.items in
    let ranked = c.in_ok-entries.field-0 in
    let r : AreRanked numbers ranked = rw c.deref.ensures.value at c.in_ok-entries.ensures in
    let stand : map (λ n. least +ℤ pos n) numbers ≡ known values = c.in_ok-numbers.ensures in
    let as_many = many least values numbers stand ranked.entries.items ranked.ranks.items r.ranks in
    let same : c.len-3.result ≡ length ranked.entries.items = omega (arith, c.len-3.ensures, ranked.entries.ok) in
    let count : c.len-2.result ≡ length numbers = omega (arith, c.len-2.ensures, c.in_ok-numbers.numbers.ok) in
    let spread : c.in_ok-ranks.ranks.items ≡ ranks_over values ranked.ranks.items (length ranked.entries.items) = c.in_ok-ranks.ensures ∙ ap (ranks_over values ranked.ranks.items) same in
    let times : length ranked.times.items ≡ length ranked.entries.items = ap length r.times ∙ length-map ranked.entries.items (times_in numbers) in
    let b = not (c.len.result - c.len-2.result == 0) in
    let groups : c.in_ok-group_values.group_values.items ≡ map (λ n. Some (least +ℤ pos n)) ranked.entries.items ++ (if b then None ∷ [] else []) = groups_by ranked.entries.items c.deref-2.result.now c.deref-2.ensures.value least b c.in_ok-group_values.group_values.items c.in_ok-group_values.ensures in
    let long = ap length groups ∙ group_count least values numbers stand ranked.entries.items ranked.ranks.items r.ranks b in
    elim c.if-nulls-ne0.branch [
      | then-nulls-ne0+in_ok-push w ↦
          let test : b ≡ true = grind (arith, nat_tests, w.if-nulls-ne0.true) in
          let count_one = ap (λ x. length ranked.entries.items + cond x 1 0) test in
          let push = length-append ranked.times.items ((c.len.result - c.len-2.result) ∷ []) in
          rw (w.times-is, w.in_ok-push.ensures.items, spread) (
            omega (arith, times, long, count_one, push),
            counted_null least values numbers stand ranked.entries.items ranked.ranks.items r.ranks ranked.times.items r.times c.requires (c.len.result - c.len-2.result) (ap (λ n. n - c.len-2.result) c.len.ensures ∙ ap (λ n. length values - n) count),
          )
      | else-nulls-ne0 w ↦
          let test : b ≡ false = grind (arith, nat_tests, w.if-nulls-ne0.false) in
          let count_none = ap (λ x. length ranked.entries.items + cond x 1 0) test in
          rw (w.times-is, spread) (
            omega (arith, times, long, count_none),
            counted_known least values numbers stand ranked.entries.items ranked.ranks.items r.ranks ranked.times.items r.times c.requires (omega (arith, w.if-nulls-ne0.false, count, as_many, known_few values, c.len.ensures)),
          )
    ]

pub returns-clause-groups : goal.returns-clause-groups
returns-clause-groups c =
    let values = c.args.values.now in
    let least = c.known_ends-ends.result.least in
    let numbers = c.in_ok-numbers.numbers.items in
    let ranked = c.in_ok-entries.field-0 in
    let r : AreRanked numbers ranked = rw c.deref.ensures.value at c.in_ok-entries.ensures in
    let stand : map (λ n. least +ℤ pos n) numbers ≡ known values = c.in_ok-numbers.ensures in
    let same : c.len-3.result ≡ length ranked.entries.items = omega (arith, c.len-3.ensures, ranked.entries.ok) in
    let count : c.len-2.result ≡ length numbers = omega (arith, c.len-2.ensures, c.in_ok-numbers.numbers.ok) in
    let spread : c.in_ok-ranks.ranks.items ≡ ranks_over values ranked.ranks.items (length ranked.entries.items) = c.in_ok-ranks.ensures ∙ ap (ranks_over values ranked.ranks.items) same in
    let b = not (c.len.result - c.len-2.result == 0) in
    let groups : c.in_ok-group_values.group_values.items ≡ map (λ n. Some (least +ℤ pos n)) ranked.entries.items ++ (if b then None ∷ [] else []) = groups_by ranked.entries.items c.deref-2.result.now c.deref-2.ensures.value least b c.in_ok-group_values.group_values.items c.in_ok-group_values.ensures in
    are_groups least values numbers stand ranked.entries.items ranked.ranks.items r.ranks b (null_test least values numbers stand ranked.entries.items ranked.ranks.items r.ranks c.len-2.result count ∙ ap (λ n. not (n - c.len-2.result == 0)) (sym c.len.ensures)) c.in_ok-group_values.group_values.items c.in_ok-ranks.ranks.items groups spread

pub returns-clause-rows : goal.returns-clause-rows
returns-clause-rows c =
    let values = c.args.values.now in
    let least = c.known_ends-ends.result.least in
    let numbers = c.in_ok-numbers.numbers.items in
    let ranked = c.in_ok-entries.field-0 in
    let r : AreRanked numbers ranked = rw c.deref.ensures.value at c.in_ok-entries.ensures in
    let stand : map (λ n. least +ℤ pos n) numbers ≡ known values = c.in_ok-numbers.ensures in
    ap length c.in_ok-ranks.ensures ∙ spread_length values ranked.ranks.items c.len-3.result (ranks_many least values numbers stand ranked.entries.items ranked.ranks.items r.ranks)
