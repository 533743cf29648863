use Rattle.std.proofs.Common.{ap, count_by, sum_by, ◌≡◌, ◌∙◌}
use Rattle.std.proofs.lemmas.List.Sums.{count_by-le-length}
use Rattle.std.specs.Int.RustNames.{count_ones}
use Rattle.bw_mask.proofs.Counts.{many_is}
use Rattle.bw_mask.proofs.mask.Mask.count.Goals as goal

counted : (c : goal.After-count_words) → c.count_words.result ≡ count_by (λ row. row) c.args.self.now.rows
counted c =
    rw (← c.self.view_is) (
    c.count_words.ensures.sum ∙ ap (sum_by count_ones) c.deref.ensures.value ∙ many_is c.self.inside.words.items c.self.inside.len c.self.invariant (λ k. rw (← c.deref.ensures.value) (c.count_words.ensures.fits k)))

pub returns-clause-rows : goal.returns-clause-rows
returns-clause-rows c = counted c

pub returns-clause-few : goal.returns-clause-few
returns-clause-few c = rw (counted c) (count_by-le-length (λ row. row) c.args.self.now.rows)
