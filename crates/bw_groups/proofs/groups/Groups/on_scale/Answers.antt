use Rattle.std.proofs.Common.{All, List, ap, arith, get_or, length, map, pos, subst, sym, ℕ, ◌+ℤ◌, ◌^◌, ◌∙◌, ◌≤◌}
use Rattle.std.proofs.lemmas.List.{length-map}
use Rattle.bw_cells.specs.SetFunctions.{known}
use Rattle.bw_rank.specs.Ranks.{times_in}
use Rattle.bw_groups.specs.Runs.{values_in}
use Rattle.bw_groups.specs.Scales.{number_on, value_on}
use Rattle.bw_groups.proofs.Scales.{below_null, counted, entries_few, few_numbers, scaled_groups, stand}
use Rattle.bw_groups.proofs.groups.Groups.on_scale.Goals as goal

pub rank_narrow-requires : goal.rank_narrow-requires
rank_narrow-requires g c =
    let values = values_in (g.C.ValueRuns.runs c.args.column.now) in
    omega (arith, ap length c.in_ok-numbers.ensures, length-map values (number_on c.args.scale.now.ends.least c.args.scale.now.null), c.requires.few)

pub values-requires : goal.values-requires
values-requires g c =
    let scale = c.args.scale.now in
    let values = values_in (g.C.ValueRuns.runs c.args.column.now) in
    let all = below_null scale.ends scale.null (known values) scale.above c.requires.within in
    let is = c.in_ok-numbers.ensures in
    let numbers = c.in_ok-numbers.numbers.items in
    let ranked = c.in_ok-entries.field-0 in
    let r = c.in_ok-entries.ensures in
    let few = subst (λ (ns : List ℕ). All (λ n. n ≤ scale.null) ns) (sym is) (few_numbers scale.ends.least scale.null scale.narrow values all) in
    let stands = ap (map (λ n. scale.ends.least +ℤ pos n)) is ∙ stand scale.ends.least scale.null scale.narrow values all in
    subst (λ (ns : List ℕ). All (λ n. n ≤ scale.null) ns) (sym c.deref.ensures.value) (entries_few scale.ends.least scale.null values all numbers ranked.entries.items ranked.ranks.items stands r.ranks few)

pub invariant_of-result : goal.invariant_of-result
invariant_of-result g c =
    let scale = c.args.scale.now in
    let values = values_in (g.C.ValueRuns.runs c.args.column.now) in
    let numbers = c.in_ok-numbers.numbers.items in
    let ranked = c.in_ok-entries.field-0 in
    let r = c.in_ok-entries.ensures in
    let few : length numbers ≤ 2 ^ 24 = omega (arith, ap length c.in_ok-numbers.ensures, length-map values (number_on scale.ends.least scale.null), c.requires.few) in
    let items = c.in_ok-values.ensures ∙ ap (map (value_on scale.ends.least scale.null)) c.deref.ensures.value in (
      omega (arith, ap length r.times, length-map ranked.entries.items (times_in numbers), ap length items, length-map ranked.entries.items (value_on scale.ends.least scale.null)),
      counted scale.ends.least numbers ranked.entries.items ranked.ranks.items r.ranks ranked.times.items r.times few,
    )

pub returns-clause-groups : goal.returns-clause-groups
returns-clause-groups g c =
    let scale = c.args.scale.now in
    let values = values_in (g.C.ValueRuns.runs c.args.column.now) in
    let all = below_null scale.ends scale.null (known values) scale.above c.requires.within in
    let is = c.in_ok-numbers.ensures in
    let numbers = c.in_ok-numbers.numbers.items in
    let ranked = c.in_ok-entries.field-0 in
    let r = c.in_ok-entries.ensures in
    let stands = ap (map (λ n. scale.ends.least +ℤ pos n)) is ∙ stand scale.ends.least scale.null scale.narrow values all in
    let items = c.in_ok-values.ensures ∙ ap (map (value_on scale.ends.least scale.null)) c.deref.ensures.value in
    scaled_groups scale.ends.least scale.null values all numbers ranked.entries.items ranked.ranks.items stands r.ranks c.in_ok-values.values.items items

pub returns-clause-rows : goal.returns-clause-rows
returns-clause-rows g c =
    let scale = c.args.scale.now in
    let values = values_in (g.C.ValueRuns.runs c.args.column.now) in
    let ranked = c.in_ok-entries.field-0 in
    let r = c.in_ok-entries.ensures in
    omega (arith, ap length r.ranks.each, length-map ranked.ranks.items (λ q. get_or ranked.entries.items q 0), ap length c.in_ok-numbers.ensures, length-map values (number_on scale.ends.least scale.null))
