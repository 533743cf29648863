use Rattle.std.proofs.Common.{None, ap, arith, get_or, length, of_z, pos, sym, to_z, w64, ◌<◌, ◌∙◌, ◌≡◌}
use Rattle.std.specs.Int.{w128}
use Rattle.std.proofs.lemmas.Int.{ints, to_z-of_z}
use Rattle.bw_groups.specs.Folding.{summary_by, sums_in}
use Rattle.bw_groups.proofs.Summing.{summaries_count, summary_there}
use Rattle.bw_groups.proofs.folds.Folds.summary.Goals as goal

pub returns : goal.returns
returns c = λ d.
    let f = c.self.inside in
    let g = c.args.g in
    let count : c.entry.result ≡ get_or f.counts.items g 0 = c.entry.ensures ∙ ap (λ xs. get_or xs g 0) c.deref.ensures.value in
    let total : c.get.result ≡ get_or (sums_in f.sums) g (pos 0) = c.get.ensures in
    let ends : c.entry-2.result ≡ get_or f.ends.items g None = c.entry-2.ensures ∙ ap (λ xs. get_or xs g None) c.deref-2.ensures.value in
    let median : c.entry-3.result ≡ get_or f.medians.items g (pos 0) = c.entry-3.ensures ∙ ap (λ xs. get_or xs g (pos 0)) c.deref-3.ensures.value in
    let low : g < length f.counts.items = omega (arith, c.requires, ap length (sym c.self.view_is) ∙ summaries_count f.asked f.counts.items (sums_in f.sums) f.ends.items f.medians.items) in
    let total_back : to_z w128 (of_z w128 c.get.result) ≡ c.get.result = search (arith, ints, to_z-of_z) in
    let median_back : to_z w64 (of_z w64 c.entry-3.result) ≡ c.entry-3.result = search (arith, ints, to_z-of_z) in
    c.summary_by.ensures
    ∙ ap (λ n. summary_by f.asked n (to_z w128 (of_z w128 c.get.result)) c.entry-2.result (to_z w64 (of_z w64 c.entry-3.result))) count
    ∙ ap (λ s. summary_by f.asked (get_or f.counts.items g 0) s c.entry-2.result (to_z w64 (of_z w64 c.entry-3.result))) (total_back ∙ total)
    ∙ ap (λ e. summary_by f.asked (get_or f.counts.items g 0) (get_or (sums_in f.sums) g (pos 0)) e (to_z w64 (of_z w64 c.entry-3.result))) ends
    ∙ ap (λ m. summary_by f.asked (get_or f.counts.items g 0) (get_or (sums_in f.sums) g (pos 0)) (get_or f.ends.items g None) m) (median_back ∙ median)
    ∙ sym (summary_there f.asked f.counts.items (sums_in f.sums) f.ends.items f.medians.items g d low)
    ∙ ap (λ xs. get_or xs g d) c.self.view_is
