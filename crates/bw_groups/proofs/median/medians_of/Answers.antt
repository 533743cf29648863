use Rattle.std.proofs.Common.{Some, [], ap, arith, drop, get_or, inl, inr, length, min, pos, pow_pos, sym, take, ◌%◌, ◌*◌, ◌+◌, ◌-◌, ◌/◌, ◌<◌, ◌^◌, ◌≡◌, ◌∙◌}
use Rattle.std.proofs.lemmas.Bool.{cases_lt}
use Rattle.std.proofs.lemmas.List.{length-drop, length-take-le}
use Rattle.std.proofs.lemmas.Nat.{one_shl}
use Rattle.bw_cells.specs.SetFunctions.{known, median}
use Rattle.bw_groups.specs.Grouping.{members}
use Rattle.bw_groups.specs.Parts.{known_rows, numbers_at, rows_of_part}
use Rattle.bw_groups.specs.Runs.{values_in}
use Rattle.bw_groups.proofs.PartRows.{rows_counted}
use Rattle.bw_groups.proofs.Places.{numbers_known, part_counted, part_fits, part_last, part_narrow, part_next, part_reach}
use Rattle.bw_groups.proofs.median.medians_of.Goals as goal

pub lists_of-requires-clause-counted : goal.lists_of-requires-clause-counted
lists_of-requires-clause-counted g c =
    let ranks = c.args.ranks.now in
    let values = values_in (g.C.ValueRuns.runs c.args.column.now) in
    let counts = c.args.counts.now in
    let n = length counts in
    let w = 2 ^ c.part_bits-bits.result in
    let p = c.parts.p in
    let count = c.min-count.result in
    let rows = known_rows ranks values in
    let some : 0 < w = pow_pos c.part_bits-bits.result in
    let here : p < n / w + 1 = omega (arith, c.parts-test.true, c.len-p-end.ensures, c.in_ok-parts.ensures.count) in
    let wide : 1 * 2 ^ c.part_bits-bits.result % 18446744073709551616 ≡ w = one_shl c.part_bits-bits.result 64 (omega (arith, c.part_bits-bits.ensures)) in
    let first : c.len-first.result ≡ p * w = omega (arith, c.len-first.ensures, c.parts.medians.ok, c.parts.invariant.here (omega (arith, here))) in
    let is : count ≡ min (n - p * w) w = c.min-count.ensures ∙ ap (λ m. min (n - m) (1 * 2 ^ c.part_bits-bits.result % 18446744073709551616)) first ∙ ap (min (n - p * w)) wide in
    let list : c.list.result.now ≡ rows_of_part w rows p = c.list.ensures ∙ c.in_ok-parts.ensures.parts p here in
    let counted = rows_counted ranks values counts c.requires.few c.requires.column c.requires.inside c.requires.counts in
    let size : c.len-first.result + count - c.len-first.result ≡ count = omega arith in
    let base = part_counted w p count rows counts some (part_narrow n w p count some here is) (part_fits n w p count some here is) (part_reach n w p count some here is) counted in
    rw (list, size, first) base

pub parts-preserved : goal.parts-preserved
parts-preserved g c =
    let ranks = c.args.ranks.now in
    let values = values_in (g.C.ValueRuns.runs c.args.column.now) in
    let counts = c.args.counts.now in
    let n = length counts in
    let w = 2 ^ c.part_bits-bits.result in
    let p = c.parts.p in
    let count = c.min-count.result in
    let rows = known_rows ranks values in
    let some : 0 < w = pow_pos c.part_bits-bits.result in
    let here : p < n / w + 1 = omega (arith, c.parts-test.true, c.len-p-end.ensures, c.in_ok-parts.ensures.count) in
    let wide : 1 * 2 ^ c.part_bits-bits.result % 18446744073709551616 ≡ w = one_shl c.part_bits-bits.result 64 (omega (arith, c.part_bits-bits.ensures)) in
    let first : c.len-first.result ≡ p * w = omega (arith, c.len-first.ensures, c.parts.medians.ok, c.parts.invariant.here (omega (arith, here))) in
    let is : count ≡ min (n - p * w) w = c.min-count.ensures ∙ ap (λ m. min (n - m) (1 * 2 ^ c.part_bits-bits.result % 18446744073709551616)) first ∙ ap (min (n - p * w)) wide in
    let list : c.list.result.now ≡ rows_of_part w rows p = c.list.ensures ∙ c.in_ok-parts.ensures.parts p here in
    let old = c.parts.medians.items in
    let new = c.put_medians.new.medians.items in
    let lists = c.in_ok-lists.lists.lists in
    let old_long : length old ≡ p * w = c.parts.invariant.here (omega (arith, here)) in
    let fits = part_fits n w p count some here is in
    let rest : length (drop c.len-first.result counts) ≡ n - c.len-first.result = length-drop c.len-first.result counts in
    let slice : length (take (c.len-first.result + count - c.len-first.result) (drop c.len-first.result counts)) ≡ count = length-take-le (c.len-first.result + count - c.len-first.result) (drop c.len-first.result counts) (omega (arith, rest, fits, first)) ∙ omega arith in
    let lists_long : length lists ≡ count = c.in_ok-lists.ensures.count ∙ slice in
    let long : length new ≡ p * w + count = omega (arith, c.in_ok-put_medians.ensures.len, old_long, lists_long) in
    record {
      here = λ more. long ∙ part_next n w p count some here is more;
      past = λ most. long ∙ part_last n w p count some here is most;
      each = λ q low any. elim (cases_lt q (length old)) [
        | inl before ↦ c.parts.invariant.each q before any ∙ ap (λ x. Some x) (sym (c.in_ok-put_medians.ensures.keeps q before))
        | inr upto ↦
            let k = q - length old in
            let whole : p * w + k ≡ q = omega (arith, upto, old_long) in
            let inside : k < count = omega (arith, low, long, whole) in
            let at : get_or lists k [] ≡ known (members ranks values q) =
            c.in_ok-lists.ensures.lists k (omega (arith, inside, slice))
            ∙ ap (λ rs. numbers_at w rs k) list
            ∙ numbers_known w p k some (omega (arith, inside, part_narrow n w p count some here is)) ranks values c.requires.column
            ∙ ap (λ m. known (members ranks values m)) whole in
            ap median (sym at) ∙ c.in_ok-put_medians.ensures.each k (omega (arith, inside, lists_long)) (rw at any) ∙ ap (λ m. Some (get_or new m (pos 0))) (omega (arith, upto))
      ];
    }
